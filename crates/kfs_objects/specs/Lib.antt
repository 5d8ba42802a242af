pub mod Keys
pub mod Records
pub mod Forms
pub mod Laws
