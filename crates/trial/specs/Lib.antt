pub mod Rows
pub mod Replies
pub mod Digits
pub mod Trying
