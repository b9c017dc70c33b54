pub mod Rows
pub mod Cascade
pub mod Lawful
pub mod Name
pub mod Accepts
