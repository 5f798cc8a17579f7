pub mod Changes
pub mod Records
pub mod Spelling
pub mod Reading
pub mod Versions
pub mod Plans
pub mod Samples
