-- The root of the laws of `le`.
pub mod Tests
pub mod Fields
pub mod Stores
pub mod Compare
