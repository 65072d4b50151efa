-- The root of the laws of `header`.
pub mod Encoding
pub mod RoundTrip
