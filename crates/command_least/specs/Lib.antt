pub mod Accesses
pub mod Fewest
pub mod inner
