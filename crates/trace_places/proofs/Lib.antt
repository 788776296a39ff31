pub mod ListLaws
pub mod TenantLaws
pub mod WriteLaws
pub mod RisingLaws
pub mod FoldLaws
pub mod StandLaws
pub mod MoveLaws
pub mod ContentLaws
mod Worked
