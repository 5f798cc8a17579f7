-- What a merged cursor goes over, how it moves, and how its pairs are found.
pub mod Layers
pub mod Merge
pub mod Steps
pub mod Search
pub mod Sources
pub mod Moves
pub mod Tables
