-- The root of the laws of `wal_batch`.
pub mod Ways
pub mod Frame
pub mod Answer
