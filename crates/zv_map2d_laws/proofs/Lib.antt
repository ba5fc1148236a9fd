pub mod Canon
pub mod Checks
pub mod FiniteMap
pub mod Kept
pub mod Laid
pub mod OnlyImage
pub mod Sizes
pub mod Standing
