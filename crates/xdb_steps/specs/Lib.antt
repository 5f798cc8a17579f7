-- What an engine keeps, topic by topic, as plain data, and what a step of it is.
pub mod Tables
pub mod Core
pub mod Parts
pub mod Between
pub mod Keeps
pub mod Notes
pub mod Step
pub mod Flush
pub mod Handouts
pub mod SetFiles
pub mod Story
