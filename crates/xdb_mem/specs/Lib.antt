-- The definitions, from numbered operations to the queue of groups and what it has in a range.
pub mod Numbered
pub mod InOrder
pub mod Held
pub mod Queue
pub mod KeptQueue
pub mod Parts
pub mod Blocks
