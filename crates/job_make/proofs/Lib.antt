pub mod DrawnOps
pub mod EnclaveSizes
pub mod MadeLists
pub mod ValidLines
pub mod ValidScripts
pub mod ValidJobs
