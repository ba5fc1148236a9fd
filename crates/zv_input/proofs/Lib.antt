mod Worked
pub mod Common
pub mod Cutting
pub mod Decimals
pub mod Decoding
pub mod Fields
pub mod Shapes
pub mod SizesOfPuts
pub mod Texts
