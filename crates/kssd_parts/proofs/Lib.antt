pub mod RunBlocks
pub mod JobsDone
