-- The root of the laws of `batch_chars`.
pub mod BatchChars
