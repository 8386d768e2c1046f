pub mod Followings
pub mod Lookups
pub mod Wholes
pub mod Settlings
pub mod Counting
pub mod Orders
pub mod Grouping
pub mod Least
