-- What answers the parts of a question.
pub mod Fits
pub mod Asked
pub mod Pairs
