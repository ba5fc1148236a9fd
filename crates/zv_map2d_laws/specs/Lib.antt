pub mod Changes
pub mod FiniteMap
pub mod HeadRows
pub mod ImageRows
pub mod Laws
pub mod Locales
pub mod Overlays
pub mod Sizes
