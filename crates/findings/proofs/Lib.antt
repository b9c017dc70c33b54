pub mod FindingLaws
pub mod PackedLaws
pub mod SoundFindings
