-- The root of the laws of `capi_numbers`.
pub mod Back
