-- The root of the laws of `frame`.
pub mod Places
pub mod Stores
pub mod RoundTrip
