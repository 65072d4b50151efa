-- The root of the definitions of a commit's calls.
pub mod CommitStep
pub mod Parts
