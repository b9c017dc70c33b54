pub mod Domains
pub mod Sizes
pub mod Counted
pub mod LimitLaws
