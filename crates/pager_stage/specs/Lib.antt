-- The root of the definitions of `pager_stage`.
pub mod Append
