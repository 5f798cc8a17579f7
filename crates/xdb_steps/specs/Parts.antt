-- How each topic agrees with the plain state. A record speaks of the fields of the state alone that are its own, so a
-- step that leaves them passes it on.
pub mod Mem
pub mod Numbers
pub mod Asks
pub mod Files
pub mod Jobs
pub mod Unbuilt
