pub mod View
pub mod MemoryUse
pub mod Reclamation
pub mod Ranges
pub mod Sought
