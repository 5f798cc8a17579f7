-- The laws, by topic.
pub mod ListLaws
pub mod InOrderLaws
pub mod NumberLaws
pub mod HeldLaws
pub mod PutLaws
pub mod BlockLaws
pub mod TouchLaws
pub mod WalkLaws
pub mod QueueLaws
pub mod FindLaws
pub mod PickLaws
pub mod PieceLaws
pub mod ContentLaws
