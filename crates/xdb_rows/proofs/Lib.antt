pub mod MapLaws
pub mod WorkerLaws
