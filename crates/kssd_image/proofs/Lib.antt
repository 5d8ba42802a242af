pub mod ValuePages
pub mod LogDamage
pub mod OneDamage
pub mod Blank
pub mod Props
pub mod Undamaged
