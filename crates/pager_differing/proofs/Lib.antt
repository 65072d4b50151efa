-- The root of the laws of which pages a commit stores.
pub mod Least
pub mod Committed
pub mod Differing
pub mod Marking
