pub mod Frame
pub mod Writes
pub mod Rows
