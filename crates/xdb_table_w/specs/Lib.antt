pub mod Content
pub mod Files
pub mod Extents
pub mod Halves
