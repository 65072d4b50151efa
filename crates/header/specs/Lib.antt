-- The root of the definitions of `header`.
pub mod Header
