pub mod Pieces
pub mod Filing
