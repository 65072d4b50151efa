-- The root of the laws of a commit's calls.
pub mod Stores
pub mod Step
pub mod Starting
pub mod Marking
pub mod Whole
