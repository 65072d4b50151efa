-- The root of the definitions of `mvcc_build`.
pub mod Build
pub mod Built
pub mod Run
pub mod Words
