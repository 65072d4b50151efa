-- The root of the statements of `other_calls`.
pub mod Others
pub mod Hosts
