pub mod NameSets
pub mod Functions
