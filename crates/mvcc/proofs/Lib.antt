-- The root of the laws of `mvcc`.
pub mod Laws
pub mod Has
pub mod Trip
pub mod Bytes
pub mod Elements
pub mod Sound
pub mod Whole
pub mod Encode
pub mod Canonical
pub mod Heading
pub mod Items
pub mod Parts
pub mod Counted
