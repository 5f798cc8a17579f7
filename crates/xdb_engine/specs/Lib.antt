-- What is seen of an engine, what its calls do to that, and what it keeps.
pub mod Files
pub mod Questions
pub mod Holds
pub mod Opening
pub mod Ends
pub mod Shows
pub mod Removals
pub mod Charges
pub mod Notes
pub mod View
pub mod Asks
pub mod Reaped
pub mod State
