pub mod Answers
pub mod Auctions
pub mod Boards
pub mod Codes
pub mod Records
