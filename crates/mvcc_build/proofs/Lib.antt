-- The root of the laws of `mvcc_build`.
pub mod Words
pub mod Laws
pub mod Grow
pub mod Built
pub mod Run
