pub mod FileLaws
pub mod StepLaws
