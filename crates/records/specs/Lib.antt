pub mod Variables
pub mod Names
