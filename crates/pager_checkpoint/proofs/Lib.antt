-- The root of the laws of a checkpoint's steps.
pub mod Areas
pub mod Table
pub mod Checkpointing
pub mod Blocks
pub mod Scan
