-- The root of the statement on the numbers of characters that batches carry.
pub mod BatchChars
