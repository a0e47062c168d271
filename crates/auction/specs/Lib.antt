pub mod Bids
pub mod Check
pub mod CheckMeaning
pub mod Judging
