pub mod Plans
pub mod Sets
pub mod KeptPages
pub mod Farthest
