pub mod WorkLaws
pub mod FileLaws
pub mod FragmentLaws
