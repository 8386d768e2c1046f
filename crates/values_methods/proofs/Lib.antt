pub mod Endings
pub mod Separators
pub mod Joins
pub mod Bridges
pub mod Turns
pub mod Replacing
