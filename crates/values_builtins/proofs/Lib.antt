pub mod RangeNumbers
pub mod Rows
pub mod Pairs
pub mod Stable
pub mod SortOrder
pub mod TextBufferLaws
pub mod PrintLaws
pub mod Reprs
