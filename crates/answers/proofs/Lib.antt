pub mod AnswerLaws
pub mod ReplyLaws
pub mod Unique
pub mod Worked
