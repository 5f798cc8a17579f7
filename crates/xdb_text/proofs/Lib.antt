pub mod Keeping
pub mod Spaced
