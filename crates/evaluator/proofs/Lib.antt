pub mod Calls
pub mod Definitions
mod TurnParts
mod Turns
pub mod FileStarts
pub mod Ending
pub mod Levels
pub mod FileEvaluation
pub mod Answering
pub mod Trees
pub mod Blocks
pub mod Crossing
pub mod FunctionLookups
