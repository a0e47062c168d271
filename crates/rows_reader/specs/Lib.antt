pub mod Given
pub mod Reader
