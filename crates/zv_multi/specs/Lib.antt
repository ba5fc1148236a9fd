pub mod Cows
pub mod Records
pub mod Laws
pub mod Options
pub mod Usable
pub mod VarTuples
