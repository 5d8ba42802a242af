pub mod Forms
pub mod KeyLaws
pub mod RecordLaws
pub mod Spelling
