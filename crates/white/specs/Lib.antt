pub mod White
