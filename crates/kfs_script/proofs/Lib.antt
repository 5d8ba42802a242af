pub mod CutLaws
pub mod DigitLaws
pub mod EscapeLaws
pub mod ScriptLaws
pub mod SpellingLaws
pub mod LineLaws
