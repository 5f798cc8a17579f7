-- Lists in the order of a number or of a comparison, and lists of numbers.
pub mod Keyed
pub mod Numbers
pub mod Sorted
