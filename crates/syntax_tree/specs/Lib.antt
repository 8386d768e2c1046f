pub mod Tree
pub mod View
pub mod Statements
pub mod Suites
pub mod Bindings
pub mod Requirements
