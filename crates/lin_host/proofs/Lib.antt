pub mod WritingLaws
pub mod AuctionLaws
pub mod ConvertingLaws
pub mod Mixed
pub mod Types
