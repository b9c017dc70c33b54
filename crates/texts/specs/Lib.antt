pub mod Expressions
pub mod Plain
pub mod Texts
pub mod WordKinds
pub mod Numbers
pub mod Places
pub mod Counts
