pub mod NameLaws
pub mod MeetingLaws
pub mod LevelLaws
pub mod WalkLaws
pub mod EditLaws
