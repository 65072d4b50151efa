-- The root of the definitions of `page`.
pub mod Page
