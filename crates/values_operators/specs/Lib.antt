pub mod ListEnd
pub mod View
pub mod Wide
