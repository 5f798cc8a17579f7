-- The laws, by topic.
pub mod AnyLaws
pub mod StripeLaws
pub mod FloorLaws
pub mod KeepLaws
pub mod EntryLaws
pub mod RepeatLaws
pub mod ThinLaws
