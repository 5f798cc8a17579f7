pub mod Given
pub mod Gathered
pub mod Gathering
pub mod Outputs
pub mod Cuts
pub mod Fits
pub mod Series
pub mod Compacting
