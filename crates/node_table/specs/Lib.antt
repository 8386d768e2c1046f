pub mod Tables
pub mod Lends
pub mod Flats
pub mod Lists
pub mod Groups
