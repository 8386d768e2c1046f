pub mod Finds
pub mod Defaults
