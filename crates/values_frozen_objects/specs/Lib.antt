pub mod Shift
pub mod Objects
pub mod Places
pub mod Values
