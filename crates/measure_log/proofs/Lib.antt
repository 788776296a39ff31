mod Appended
mod Worked
