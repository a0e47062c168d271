pub mod FileLaws
pub mod FitLaws
