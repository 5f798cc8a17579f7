pub mod OrderLaws
pub mod InOrderLaws
pub mod NameLaws
pub mod VarintLaws
pub mod ReadingLaws
