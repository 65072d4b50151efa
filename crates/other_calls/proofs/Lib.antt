-- The root of the proofs of `other_calls`.
pub mod Others
pub mod Hosts
