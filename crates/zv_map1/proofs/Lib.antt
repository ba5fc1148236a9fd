pub mod Appended
pub mod Building
pub mod Common
pub mod Found
pub mod Left
pub mod Zipped
