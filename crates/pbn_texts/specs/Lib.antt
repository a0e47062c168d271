pub mod Sources
pub mod Texts
pub mod Names
pub mod Layout
pub mod Calls
pub mod Raw
pub mod Rows
