-- The definitions, from stripes and floors to what thinning leaves and keeps.
pub mod Stripes
pub mod Floors
pub mod Thinned
pub mod Keeps
pub mod Steps
