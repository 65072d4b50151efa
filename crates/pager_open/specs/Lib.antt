-- The root of the definitions of `pager_open`.
pub mod Given
pub mod Judging
