-- The root of the proofs of `pager_stage`.
pub mod Staging
pub mod Appending
