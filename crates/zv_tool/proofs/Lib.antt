mod Worked
pub mod Runs
