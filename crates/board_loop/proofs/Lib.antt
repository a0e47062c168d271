pub mod HeadLaws
pub mod DealingLaws
pub mod CallLaws
pub mod PlayLaws
pub mod StoringLaws
