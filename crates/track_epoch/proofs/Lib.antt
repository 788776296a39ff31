pub mod TrackingLaws
pub mod CounterLaws
pub mod TracksLaws
