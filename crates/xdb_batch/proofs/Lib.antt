pub mod Lengths
pub mod Parts
pub mod Batches
pub mod Loop
