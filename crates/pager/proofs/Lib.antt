-- The root of the proofs of `pager`.
pub mod Steps
pub mod Whole
