pub mod Statements
pub mod Between
pub mod Raised
pub mod Starred
pub mod Texts
