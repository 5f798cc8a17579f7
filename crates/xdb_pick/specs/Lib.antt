-- Hulls of plans, and the tables that are tried in turn.
pub mod Hulls
pub mod Trying
