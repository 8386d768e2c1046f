pub mod FreezeLaws
pub mod TupleKeys
pub mod Sames
pub mod Shallow
pub mod Places
