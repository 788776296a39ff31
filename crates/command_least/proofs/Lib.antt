mod InsideLaws
mod ReloadLaws
mod RenamingLaws
mod NamingLaws
