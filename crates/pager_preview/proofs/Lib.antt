-- The root of the laws of a commit's preview.
pub mod Closed
pub mod Judged
