-- What each call of a flash answers, and what it leaves.
use Rattle.std.specs.Prelude.{◌≡◌, ◌⊎◌, ◌≤◌, ℕ, true, false, List, Option, Some, None}
use Rattle.kv_base.specs.Counts.{one_more}
use Rattle.kv_nand.specs.declared.fault.NandFault.{NandFault}
use Rattle.kv_nand.specs.declared.fault.NandFault.TheVariants.{Off, Failed}
use Rattle.kv_nand.specs.declared.nand.OpKind.{OpKind}
use Rattle.kv_nand.specs.declared.nand.PageKind.{PageKind}
use Rattle.kv_nand.specs.declared.nand.PageKind.TheVariants as kinds
use Rattle.kv_nand.specs.Flash.{Flash, Image, PageState, Erased, Whole, Cut, with_page, with_erased}

-- the page is programmed with these bytes
abbrev pub programmed : Flash → ℕ → List ℕ → Flash
programmed f page bytes = record f { image = with_page f.image page (Whole bytes); ops = one_more f.ops }

-- the block is erased
abbrev pub erased : Flash → ℕ → Flash
erased f block = record f { image = with_erased f.image block; ops = one_more f.ops }

-- the power is on
abbrev pub powered_on : Flash → Flash
powered_on f = record f { powered = true }

-- a page was read
abbrev pub has_read : Flash → Flash
has_read f = record f { reads = one_more f.reads }

-- power was cut in an operation that left this image
abbrev pub cut_off : Flash → Image → Flash
cut_off f image = record f { image = image; powered = false; cuts = one_more f.cuts; ops = one_more f.ops }

-- an operation failed and left this image
abbrev pub failed : Flash → Image → Flash
failed f image = record f { image = image; faults = one_more f.faults; ops = one_more f.ops }

-- a read failed
abbrev pub read_failed : Flash → Flash
read_failed f = record f { reads = one_more f.reads; faults = one_more f.faults }

-- one more cut may come
abbrev pub with_most_cuts : Flash → Flash
with_most_cuts f = record f { most_cuts = one_more f.cuts }

-- `Off` where there was no power, or power was cut; `Failed` where the operation failed
abbrev pub Falls : Flash → NandFault → Flash → Type 0
Falls old Off new = ((old.powered ≡ false) × (new ≡ old)) ⊎ ((old.powered ≡ true) × (new ≡ cut_off old new.image))
Falls old Failed new = (old.powered ≡ true) × (new ≡ failed old new.image)

-- where a fault was planned, only operations of its kind fail
abbrev pub MayFail : Option OpKind → OpKind → Type 0
MayFail None kind = Unit {0}
MayFail (Some planned) kind = planned ≡ kind

-- the kind of a page's state, and what reading it leaves in the buffer
abbrev pub Shows : PageState → List ℕ → PageKind → List ℕ → Type 0
Shows Erased before kind after = (kind ≡ kinds.Erased) × (after ≡ before)
Shows (Whole bytes) before kind after = (kind ≡ kinds.Whole) × (after ≡ bytes)
Shows Cut before kind after = (kind ≡ kinds.Cut) × (after ≡ before)

-- the page was read, with power
pub record ReadDone (old : Flash) (page : ℕ) (before : List ℕ) (kind : PageKind) (filled : List ℕ) (new : Flash) : Type 0 where
  pub powered : old.powered ≡ true
  pub shows : Shows (old.image page) before kind filled
  pub after : new ≡ has_read old

-- the page was not read, and the buffer is as it was
abbrev pub ReadFault : Flash → List ℕ → NandFault → List ℕ → Flash → Type 0
ReadFault old before Off after new = (old.powered ≡ false) × (new ≡ old) × (after ≡ before)
ReadFault old before Failed after new = (old.powered ≡ true) × (new ≡ read_failed old) × (after ≡ before)

-- a fault of this kind is planned: at most one more fault may come
pub record PlansFault (old : Flash) (kind : OpKind) (new : Flash) : Type 0 where
  pub most : new.most_faults ≤ one_more old.faults
  pub after : new ≡ record old { most_faults = new.most_faults; fails = Some kind }
