-- The root of the definitions of `log_listing`.
pub mod Listing
pub mod Answer
