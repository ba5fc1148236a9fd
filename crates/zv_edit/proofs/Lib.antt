mod Worked
pub mod Common
pub mod Edits
pub mod Fitting
pub mod Left
pub mod Lines
pub mod Looks
pub mod PutRoom
pub mod Served
pub mod Texts
