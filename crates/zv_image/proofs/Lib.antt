mod Worked
pub mod Faults
pub mod Parts
