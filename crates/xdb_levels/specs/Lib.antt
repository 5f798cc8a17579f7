pub mod Levels
pub mod Applying
pub mod Names
