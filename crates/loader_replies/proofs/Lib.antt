pub mod Exports
pub mod Rising
pub mod Plain
mod Placing
mod Writing
mod AsText
mod Rows
