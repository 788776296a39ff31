pub mod CreatedLaws
pub mod GrownLaws
