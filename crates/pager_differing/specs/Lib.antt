-- The root of the definitions of which pages a commit stores.
pub mod Differing
