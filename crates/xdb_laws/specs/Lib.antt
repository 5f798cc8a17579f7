-- The definitions that the laws speak of: the map of a content, the answers over it, the order of contents, and what
-- flushes and compactions do.
pub mod Image
pub mod Answered
pub mod Ordered
pub mod Rewrite
pub mod Flush
pub mod Compaction
pub mod Excises
pub mod Loads
pub mod Snapshots
pub mod Parts
pub mod Placement
pub mod Tables
pub mod LoadEdit
pub mod Small
pub mod SmallLoad
