-- The root of the cases.
pub mod Cases
