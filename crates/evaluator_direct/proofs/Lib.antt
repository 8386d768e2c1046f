pub mod Size
pub mod Trees
pub mod Runs
pub mod Plain
pub mod Room
