pub mod TakenOut
pub mod JobLaws
pub mod FenceLaws
pub mod ListLaws
pub mod StateLaws
