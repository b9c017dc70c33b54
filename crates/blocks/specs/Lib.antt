pub mod Early
pub mod Block
