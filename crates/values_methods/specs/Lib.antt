pub mod Cases
pub mod Texts
