-- The root of the proofs of `pager_read`.
pub mod Clock
pub mod Place
