pub mod Replies
pub mod Says
pub mod Answers
pub mod Here
