-- The root of the definitions of `capi_answers`.
pub mod Answers
