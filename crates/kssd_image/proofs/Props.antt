-- What a mount demands of an image holds in one way, so that a type may keep it.
use Rattle.std.proofs.Common.{ℕ, ◌+◌, List, [], ◌∷◌, cond, eqb}
use Rattle.std.proofs.Props.{props}
use Rattle.std.specs.Coded.{×_prop, Unit-prop, le_prop}
use Rattle.std.specs.List.{IsDistinct-prop}
use Rattle.kv_nand.specs.Flash.{Image}
use Rattle.kssd_model.specs.declared.anchor.Anchor.{Anchor}
use Rattle.kssd_model.specs.Groups.{LogPage, Walk, WithinBlocks, AreAllowed}
use Rattle.kssd_image.specs.AnchorForm.{IsAnchorForm}
use Rattle.kssd_image.specs.Whole.{IsLogWhole, IsWhole, Sound}

WithinBlocks-prop : (turns : ℕ) (xs : List LogPage) → IsProp (WithinBlocks turns xs)
WithinBlocks-prop turns [] = Unit-prop
WithinBlocks-prop turns (x ∷ xs) = ×_prop le_prop (WithinBlocks-prop (turns + cond (eqb x.flags 2) 1 0) xs)

AreAllowed-prop : (xs : List LogPage) → IsProp (AreAllowed xs)
AreAllowed-prop xs = hlevel (props, WithinBlocks-prop 0 xs)

IsLogWhole-prop : (image : Image) (log : Walk) → IsProp (IsLogWhole image log)
IsLogWhole-prop image log = hlevel (props, AreAllowed-prop log.pages)

IsAnchorForm-prop : (blocks : ℕ) (anchor : Anchor) → IsProp (IsAnchorForm blocks anchor)
IsAnchorForm-prop blocks anchor = hlevel (props, IsDistinct-prop)

pub IsWhole-prop : (blocks : ℕ) (image : Image) → IsProp (IsWhole blocks image)
IsWhole-prop blocks image = hlevel (props, IsAnchorForm-prop, IsLogWhole-prop)

pub Sound-prop : (blocks : ℕ) (image : Image) → IsProp (Sound blocks image)
Sound-prop blocks image = hlevel (props, IsWhole-prop)
