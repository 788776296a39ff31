pub mod Translations
pub mod Probe
pub mod Index
pub mod Ring
pub mod Modes
