pub mod Kinds
pub mod Rows
