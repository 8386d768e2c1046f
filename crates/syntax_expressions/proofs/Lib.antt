pub mod Turns
pub mod ManyTargets
pub mod Ends
pub mod Alone
