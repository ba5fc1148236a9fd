pub mod Due
pub mod Inputs
pub mod Reading
pub mod Runs
pub mod Sending
pub mod Text
