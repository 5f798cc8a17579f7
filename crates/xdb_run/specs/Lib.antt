-- Which scripts can be run, how far a run has come, how work ends in it, and what its devices bear out.
pub mod Built
pub mod Outside
pub mod Running
pub mod Working
