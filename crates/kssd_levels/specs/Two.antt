-- Two ordered sources that are read as one.
use Rattle.std.specs.Prelude.{◌≡◌, ℕ, true, List, [], ◌∷◌, Option, Some, None}
use Rattle.kv_nand.specs.Flash.{Image}
use Rattle.kssd_entry.specs.declared.entry.Entry.{Entry}
use Rattle.kssd_model.specs.Rising.{is_rising, merged}
use Rattle.kssd_levels.specs.declared.two.Two.{Two}

-- the entry that is next, and those behind it
abbrev pub with_next : Option Entry → List Entry → List Entry
with_next None later = later
with_next (Some e) later = e ∷ later

-- the next entry, and for each later key the newer one
abbrev pub two_rest : {A B : Type 0} → (A → Image → List Entry) → (B → Image → List Entry) → Two A B → Image → List Entry
two_rest newer older two image = with_next two.next (merged (newer two.newer image) (older two.older image))

-- both stand, the keys rise, and there is a next entry where any is left
pub record StandsTwo {A B : Type 0} (newer : A → Image → List Entry) (older : B → Image → List Entry) (Newer : A → ℕ → Image → Type 0) (Older : B → ℕ → Image → Type 0) (two : Two A B) (device : ℕ) (image : Image) : Type 0 where
  pub newer_stands : Newer two.newer device image
  pub older_stands : Older two.older device image
  pub rising : is_rising (two_rest newer older two image) ≡ true
  pub ended : two.next ≡ None → merged (newer two.newer image) (older two.older image) ≡ []
