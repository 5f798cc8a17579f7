pub mod HistoryLaws
pub mod RunLaws
pub mod RefusalLaws
pub mod PossibleLaws
pub mod FailureLaws
