-- The root of the laws of `refusal`.
pub mod Rows
pub mod Judged
pub mod Headers
