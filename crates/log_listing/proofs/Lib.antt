-- The root of the laws of `log_listing`.
pub mod Pieces
pub mod Lines
