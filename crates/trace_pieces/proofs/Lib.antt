pub mod HeldLaws
pub mod TextLaws
