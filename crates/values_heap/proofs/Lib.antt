pub mod Laid
pub mod Places
pub mod Halving
pub mod OwnObjects
pub mod Iterations
