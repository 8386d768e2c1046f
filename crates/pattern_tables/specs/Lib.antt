pub mod Excluding
pub mod Parts
pub mod PatternTables
