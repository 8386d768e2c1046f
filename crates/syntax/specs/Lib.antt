pub mod Inners
pub mod Answers
pub mod ParameterNames
