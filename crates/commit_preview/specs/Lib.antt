-- The root of the statement on previews of commits.
pub mod CommitPreview
