-- The root of the definitions of `history`, in the order in which they are best read.
pub mod Model
pub mod Calls
pub mod Run
pub mod Demand3
pub mod Guards
pub mod FilesAfter
