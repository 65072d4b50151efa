-- The root of the definitions of `input`.
pub mod Input
