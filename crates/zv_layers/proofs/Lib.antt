mod Worked
pub mod Gathered
pub mod Laid
pub mod Laying
pub mod Limits
pub mod Refusals
pub mod Common
