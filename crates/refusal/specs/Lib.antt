-- The root of the definitions of `refusal`.
pub mod Refusal
pub mod Headers
