pub mod RoundTrip
pub mod LookLevels
pub mod OldTexts
pub mod ReadAs
