pub mod AloneLaws
pub mod ListedLaws
pub mod MarkLaws
pub mod BareLaws
