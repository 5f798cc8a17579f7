-- The laws, by topic.
mod SortedLaws
mod LayerLaws
mod DecideLaws
mod PairLaws
mod SearchLaws
mod LoadLaws
mod SourceLaws
mod MoveLaws
pub mod TableLaws
