pub mod TreeLaws
pub mod TakesLaws
pub mod FoundLaws
pub mod Accepted
pub mod Saying
pub mod RoundTrips
pub mod Refused
