pub mod Script
pub mod ScriptRows
pub mod AnswerText
pub mod Spelled
pub mod Reading
