pub mod CommandLaws
pub mod StepLaws
pub mod PlainLaws
