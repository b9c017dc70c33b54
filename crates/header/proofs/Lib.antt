pub mod ZeroLaws
pub mod HeaderLaws
pub mod Spare
