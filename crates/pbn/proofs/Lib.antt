pub mod MadeLaws
pub mod StoreLaws
