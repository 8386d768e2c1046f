pub mod Serving
pub mod Crews
pub mod HostStates
pub mod Steps
pub mod Evaluations
pub mod Running
