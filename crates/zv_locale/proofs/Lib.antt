mod Worked
pub mod Common
pub mod Cuts
pub mod Lines
pub mod Searches
