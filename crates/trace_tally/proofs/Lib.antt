pub mod RefusalLaws
pub mod SightLaws
pub mod TallyLaws
