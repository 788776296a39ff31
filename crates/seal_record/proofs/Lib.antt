mod Blocks
pub mod CipherLaws
mod Enciphered
pub mod HeaderLaws
pub mod RecordLaws
mod Tagged
mod Xor
