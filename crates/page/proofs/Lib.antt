-- The root of the laws of `page`.
pub mod Written
