pub mod Operations
pub mod TableBounds
pub mod Refusing
pub mod Loads
