pub mod OpLaws
pub mod BoundsLaws
pub mod LoadLaws
pub mod ContentLaws
