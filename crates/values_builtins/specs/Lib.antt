pub mod Results
pub mod Parts
pub mod Spans
pub mod Ranks
pub mod TextBuffers
