pub mod KeyLaws
pub mod KeyTexts
pub mod CycleLaws
pub mod LeafReads
pub mod Ascending
pub mod MarkLaws
