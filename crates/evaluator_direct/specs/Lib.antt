pub mod Quiet
pub mod Weight
pub mod Parts
pub mod View
pub mod StatementResults
pub mod Running
