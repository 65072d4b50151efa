-- The root of the definitions of `mvcc_canonical`.
pub mod Canonical
