pub mod ValuePages
pub mod Stages
pub mod AnchorForm
pub mod Whole
pub mod Damages
pub mod DamageLaws
pub mod Worked
