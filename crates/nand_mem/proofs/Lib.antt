pub mod Images
pub mod States
pub mod Files
