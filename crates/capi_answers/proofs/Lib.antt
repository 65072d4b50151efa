-- The root of the laws of `capi_answers`.
pub mod Agree
