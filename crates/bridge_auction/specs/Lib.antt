pub mod Auction
pub mod AuctionMeaning
pub mod State
