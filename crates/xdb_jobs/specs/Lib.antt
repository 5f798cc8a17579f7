-- Running compactions, fences, and what the plain state has of both.
pub mod Running
pub mod Fencing
pub mod InState
