-- The root of the definitions of the pager, in the order in which they are best read.
pub mod World
pub mod Overlay
pub mod Staging
pub mod Queries
pub mod Batches
pub mod Stores
pub mod Opened
pub mod Opening
pub mod Pages
pub mod Checkpoint
pub mod Commit
pub mod Steps
