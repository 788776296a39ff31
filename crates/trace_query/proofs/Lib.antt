pub mod PlaceLaws
pub mod SpanLaws
pub mod SpanPlaces
pub mod SeenLaws
pub mod InsideLaws
pub mod WordKeys
pub mod WordLaws
pub mod FirstWords
pub mod TakenLaws
pub mod WrittenLaws
mod Worked
