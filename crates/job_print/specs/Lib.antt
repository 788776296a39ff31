pub mod JobText
