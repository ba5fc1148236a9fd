pub mod Puts
pub mod Summary
