pub mod BidLaws
pub mod Cases
pub mod CheckLaws
pub mod FormLaws
pub mod FollowRowLaws
pub mod NineLaws
pub mod ReadingLaws
pub mod SearchLaws
