pub mod Header
pub mod MustBeZero
