pub mod Front
pub mod Targets
pub mod Expressions
pub mod Statements
pub mod Files
pub mod Grammar
pub mod Texts
pub mod TargetRules
