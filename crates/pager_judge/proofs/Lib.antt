-- The root of the laws of how a commit is judged.
pub mod Judging
