pub mod Words
pub mod Causes
pub mod Lines
pub mod Tokens
pub mod Writing
