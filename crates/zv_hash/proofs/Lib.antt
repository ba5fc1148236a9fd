mod Common
mod Permutations
mod Slots
mod Links
mod Choices
mod Fillings
pub mod Decide
mod Stuck
