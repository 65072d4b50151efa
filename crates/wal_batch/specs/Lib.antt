-- The root of the definitions of `wal_batch`.
pub mod Batch
