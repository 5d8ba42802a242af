pub mod Failing
pub mod GoneChunks
pub mod Pieces
pub mod ReadingPieces
pub mod Resizing
pub mod Spending
