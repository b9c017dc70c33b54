pub mod HashScan
pub mod DigitLaws
pub mod NumberLaws
pub mod Worked
