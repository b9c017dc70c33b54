pub mod NumberLaws
pub mod StandingLaws
pub mod ValueLaws
