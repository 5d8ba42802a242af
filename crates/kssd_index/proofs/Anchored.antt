-- What the stages of an image are where its newest anchor is known.
use Rattle.std.proofs.Common.{ℕ, ◌≤◌, sym, subst}
use Rattle.kv_nand.specs.Flash.{Image}
use Rattle.kssd_image.specs.Whole.{age_in}
use Rattle.kssd_index.specs.declared.index.Index.{Index}
use Rattle.kssd_index.specs.Standing.{IsIndex, index_age}
use Rattle.kssd_root.proofs.Anchored.{age_is}

pub aged_still : (index : Index) (blocks : ℕ) (image : Image) → IsIndex index blocks image → age_in image ≤ index_age index
aged_still index blocks image h = subst (λ (n : ℕ). n ≤ index_age index) (sym (age_is index.root.page index.root.anchor image h.root.anchored.newest)) h.numbers
