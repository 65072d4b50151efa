-- The root of the definitions of `capi_numbers`.
pub mod Numbers
