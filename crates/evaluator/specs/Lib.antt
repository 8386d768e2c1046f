pub mod Machines
pub mod Finding
pub mod Entering
pub mod Files
pub mod Outcomes
