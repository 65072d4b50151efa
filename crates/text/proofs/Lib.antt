-- The root of the laws of `text`.
pub mod Laws
pub mod Sequences
pub mod Tops
mod Fitting
mod Judging
pub mod Agrees
pub mod Answers
