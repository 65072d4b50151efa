-- The root of the statement on the clock that a clean opening takes.
pub mod OpeningClock
