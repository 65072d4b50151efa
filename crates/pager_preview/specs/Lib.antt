-- The root of the definitions of a commit's preview.
pub mod Preview
pub mod Closed
