pub mod Tree
pub mod Value
pub mod Rule
pub mod Cases
pub mod CaseOrder
pub mod Odometer
