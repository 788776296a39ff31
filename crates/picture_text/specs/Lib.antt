pub mod Open
pub mod Events
pub mod Lanes
pub mod PictureText
pub mod Reading
pub mod inner
