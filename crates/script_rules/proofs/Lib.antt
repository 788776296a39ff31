pub mod CursorLaws
