pub mod LineTokens
pub mod Joining
