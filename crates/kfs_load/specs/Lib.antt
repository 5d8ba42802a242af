pub mod Generator
pub mod Adding
pub mod Coming
