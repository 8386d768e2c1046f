pub mod View
pub mod Same
pub mod SameLaws
pub mod Storage
pub mod Laid
