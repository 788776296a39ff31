pub mod Cipher
pub mod Records
pub mod Sealing
pub mod inner
