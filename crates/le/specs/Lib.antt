-- The root of the definitions of `le`.
pub mod Choice
pub mod Le
pub mod Answers
