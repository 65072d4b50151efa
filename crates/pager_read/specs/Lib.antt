-- The root of the definitions of `pager_read`.
pub mod Reading
