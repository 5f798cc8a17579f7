mod CauseLaws
pub mod ExitLaws
pub mod TopLaws
