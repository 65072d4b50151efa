-- The root of the definitions of a checkpoint's steps.
pub mod CheckpointStep
