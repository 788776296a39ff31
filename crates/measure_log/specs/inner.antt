pub mod Measure
