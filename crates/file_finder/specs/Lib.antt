pub mod Finder
pub mod Walk
