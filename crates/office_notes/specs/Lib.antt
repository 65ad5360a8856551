pub mod Acts
pub mod Laws
pub mod Objects
pub mod Parts
