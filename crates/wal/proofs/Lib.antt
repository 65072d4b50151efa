-- The root of the laws of `wal`.
pub mod Encoding
pub mod HeaderRoundTrip
pub mod Places
pub mod Frames
pub mod Recovered
pub mod Laid
pub mod Opening
pub mod Replay
pub mod Reading
pub mod Kept
pub mod Writing
pub mod Reached
pub mod Lengths
pub mod Sample
