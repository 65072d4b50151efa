-- The root of the definitions of `pager`.
pub mod Jobs
