pub mod Ring
pub mod Append
pub mod Scan
pub mod ScanFaults
