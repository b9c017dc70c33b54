pub mod Rows
pub mod Prints
pub mod Lines
