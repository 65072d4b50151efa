-- The root of the definitions of `wal`.
pub mod Header
pub mod Recovery
pub mod Read
pub mod Write
pub mod Reached
