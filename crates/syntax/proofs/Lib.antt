pub mod Turns
pub mod ParseResults
pub mod ParameterNames
