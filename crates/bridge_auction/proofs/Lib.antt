pub mod AuctionCases
pub mod AuctionLaws
pub mod DeclarerLaws
pub mod FollowLaws
pub mod LengthLaws
pub mod NameLaws
pub mod OpponentLaws
pub mod StateLaws
