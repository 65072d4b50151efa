-- The root of the laws of `opening_clock`.
pub mod Found
pub mod NewStore
pub mod OpeningClock
