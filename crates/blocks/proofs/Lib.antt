pub mod CheckLaws
pub mod Divisors
pub mod BlockLaws
pub mod EarlyLaws
pub mod Change
pub mod Unique
pub mod Worked
