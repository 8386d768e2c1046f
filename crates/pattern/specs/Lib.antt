pub mod Wild
pub mod Patterns
pub mod Pieces
pub mod Parts
pub mod Rest
pub mod Globs
pub mod Starless
