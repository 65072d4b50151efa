-- The root of the definitions of `checksum`.
pub mod Checksum
pub mod Blocks
