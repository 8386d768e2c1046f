pub mod Words
pub mod Numbers
pub mod Strings
pub mod Scan
pub mod Depths
pub mod PlainTexts
pub mod Foreign
