-- The root of the statement on the staging limit.
pub mod StagingLimit
