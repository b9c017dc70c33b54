pub mod Words
pub mod Text
pub mod Sixteen
pub mod Form
pub mod Binary
pub mod Script
