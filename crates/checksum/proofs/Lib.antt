-- The root of the laws of `checksum`.
pub mod Sums
pub mod Blocks
pub mod Words
pub mod Zeros
