-- The root of the statement on how many items batches have.
pub mod BatchItems
