-- The root of the definitions of a commit's judgement.
pub mod Judged
