-- The root of the laws of `commit_preview`.
pub mod Foretold
pub mod CommitPreview
