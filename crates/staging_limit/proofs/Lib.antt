-- The root of its proof.
pub mod StagingLimit
