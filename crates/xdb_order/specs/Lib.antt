pub mod Desk
pub mod Pending
pub mod Slot
pub mod Seats
pub mod Steps
