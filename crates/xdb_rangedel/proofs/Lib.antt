-- The laws, by topic.
pub mod MemberLaws
pub mod NewestLaws
pub mod LayerLaws
pub mod CoverLaws
pub mod PieceLaws
pub mod SpanLaws
pub mod ViewLaws
pub mod PartLaws
pub mod FragmentLaws
pub mod RangeLaws
pub mod StripLaws
pub mod ColumnLaws
pub mod LaidLaws
pub mod OnlyLaws
