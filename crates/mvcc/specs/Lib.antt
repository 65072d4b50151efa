-- The root of the definitions of `mvcc`.
pub mod Answer
pub mod Fields
pub mod Decode
pub mod Batch
pub mod Items
pub mod Parts
pub mod Seen
pub mod Vector
