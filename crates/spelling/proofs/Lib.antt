pub mod WordLaws
pub mod DigitLaws
pub mod NumberLaws
