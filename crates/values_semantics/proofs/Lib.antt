pub mod Examples
pub mod Builtins
