-- The root of the laws of `pager_open`.
pub mod Front
pub mod Table
pub mod Found
pub mod Clock
pub mod Judged
pub mod Opened
pub mod Created
