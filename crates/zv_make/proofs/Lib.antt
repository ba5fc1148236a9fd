pub mod Images
pub mod Made
mod Worked
