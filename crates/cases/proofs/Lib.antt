-- The root of the proofs of the cases.
pub mod Built
pub mod Decoded
pub mod Cases
