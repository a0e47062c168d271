pub mod MeasureLaws
pub mod FinderLaws
pub mod MeaningLaws
pub mod Cases
