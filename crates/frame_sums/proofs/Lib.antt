-- The root of its proof.
pub mod FrameSums
