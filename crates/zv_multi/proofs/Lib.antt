pub mod Cut
pub mod Exact
pub mod Faults
pub mod Reading
pub mod Setting
pub mod Written
