pub mod OrderLaws
pub mod NumberLaws
pub mod KeyLaws
pub mod PlaceLaws
pub mod SortedLaws
pub mod StableLaws
