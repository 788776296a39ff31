mod ReadyLaws
mod SecsLaws
mod ArrayLaws
