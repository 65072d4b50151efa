pub mod Table
pub mod Utf8
pub mod Agrees
pub mod Walk
pub mod Windows
