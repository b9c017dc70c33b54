pub mod Findings
pub mod Steps
pub mod Kept
