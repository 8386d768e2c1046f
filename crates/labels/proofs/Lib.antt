pub mod Ancestors
pub mod Cuts
pub mod Segments
pub mod Reading
