pub mod Nodes
pub mod Members
pub mod Invariants
pub mod Steps
pub mod TurnCounts
pub mod Ready
