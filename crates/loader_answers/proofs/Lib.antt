pub mod Histories
pub mod Linking
pub mod Requests
pub mod Naming
pub mod Joining
pub mod Texts
