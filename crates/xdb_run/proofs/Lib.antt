pub mod BuiltLaws
pub mod StateLaws
pub mod LineLaws
pub mod QuestionLaws
pub mod WorkLaws
pub mod ReadLaws
pub mod OutsideLaws
