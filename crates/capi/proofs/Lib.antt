-- The root of the laws of `capi`.
pub mod Calls
pub mod Exported
