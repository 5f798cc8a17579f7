pub mod RangeLaws
pub mod SweepLaws
pub mod GrowthLaws
pub mod OrderingLaws
pub mod ShutLaws
pub mod WalkLaws
