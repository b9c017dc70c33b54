pub mod Pointing
pub mod Pointed
pub mod Standing
pub mod Lines
