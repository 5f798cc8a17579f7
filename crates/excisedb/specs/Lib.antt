pub mod Devices
pub mod Ends
pub mod Outcome
pub mod Codes
pub mod Words
pub mod Exits
pub mod Causes
