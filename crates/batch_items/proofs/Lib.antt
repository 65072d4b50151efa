-- The root of the laws of `batch_items`.
pub mod Cut
pub mod Places
pub mod Most
pub mod BatchItems
