pub mod Commands
pub mod Edits
pub mod Refusals
pub mod View
