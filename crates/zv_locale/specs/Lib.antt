pub mod Asks
pub mod Bounds
pub mod Names
pub mod Provided
pub mod Texts
pub mod Wanted
