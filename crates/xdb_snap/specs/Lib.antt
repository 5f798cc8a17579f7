pub mod Listed
pub mod Changes
pub mod Pinned
pub mod Bare
pub mod Replies
