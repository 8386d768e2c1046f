pub mod Beside
pub mod BlockTexts
pub mod FunctionPlaces
pub mod Lists
pub mod SameTests
pub mod TargetTexts
