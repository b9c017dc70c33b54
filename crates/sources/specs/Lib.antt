pub mod Sources
pub mod Refusing
pub mod Texts
