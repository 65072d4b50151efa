-- The root of the definitions of `capi`.
pub mod Batch
pub mod Log
pub mod Text
pub mod Version
