pub mod Turning
pub mod Counting
pub mod Writing
pub mod ScanSteps
pub mod Beginning
