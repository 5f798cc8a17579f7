-- The definitions, from what a list holds to how contents stand to one another.
pub mod Members
pub mod Cover
pub mod Pieces
pub mod Clip
pub mod Content
pub mod View
pub mod Layers
pub mod Sweep
