-- The root of the laws of `mvcc_canonical`.
pub mod Same
pub mod Walk
pub mod Bools
pub mod Whole
