pub mod Answers
pub mod Tokens
pub mod Order
pub mod Laws
