pub mod Comparisons
pub mod Hashes
pub mod Members
pub mod Parts
pub mod Quotients
