-- The root of the definitions of `replay`.
pub mod Cases
pub mod Line
pub mod Drawn
