pub mod Numbers
pub mod Flats
