pub mod FieldLaws
pub mod RecordLaws
pub mod EditLaws
pub mod ReadingLoop
pub mod WritingLaws
pub mod VersionLaws
pub mod PlanLaws
