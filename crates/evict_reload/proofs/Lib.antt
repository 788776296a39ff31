mod SlotLaws
mod StartLaws
mod TrackLaws
pub mod PageLaws
pub mod CallLaws
pub mod SecsLaws
pub mod CountLaws
