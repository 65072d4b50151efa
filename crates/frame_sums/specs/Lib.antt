-- The root of the statement on sums of frames.
pub mod FrameSums
