pub mod View
pub mod Nests
pub mod Parts
pub mod Alone
