pub mod Tokens
pub mod Files
pub mod Writing
pub mod Annotations
pub mod Auctions
pub mod Converting
pub mod Mixed
