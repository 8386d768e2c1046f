pub mod Reply
pub mod Value
pub mod Graph
pub mod Choices
pub mod States
pub mod Journal
pub mod Rotation
pub mod Reachability
