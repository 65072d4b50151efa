-- The root of the laws of `replay`.
pub mod Lines
pub mod Bytes
