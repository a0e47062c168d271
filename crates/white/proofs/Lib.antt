pub mod WhiteLaws
