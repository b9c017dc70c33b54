pub mod Causes
pub mod Said
pub mod Rows
