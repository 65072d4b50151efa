-- The root of the definitions of `frame`.
pub mod Frame
