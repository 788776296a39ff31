mod SeenLaws
pub mod OneLaws
