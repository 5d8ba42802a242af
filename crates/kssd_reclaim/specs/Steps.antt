-- What a step of a collection does.
use Rattle.std.specs.Prelude.{◌≡◌, ◌⊎◌, ◌+◌, ◌%◌, ◌++◌, ◌∷◌, [], ℕ, Some, None}
use Rattle.kv_nand.specs.Flash.{Flash, PageState}
use Rattle.kv_nand.specs.Working.{ops_more}
use Rattle.kssd_values.specs.declared.values.Values.{Values}
use Rattle.kssd_values.specs.Changes.{Copies}
use Rattle.kssd_values.specs.Pages.{key_in, size_in}
use Rattle.kssd_reclaim.specs.declared.copies.CopyOf.{CopyOf}
use Rattle.kssd_reclaim.specs.declared.reclaim.Reclaim.{Reclaim}
use Rattle.kssd_reclaim.specs.Reclaim.{block_of, next_of, copies_of, AllCopied, IsNext}

-- the collection is where it was
pub record Waits (old new : Reclaim) : Type 0 where
  pub block : block_of new ≡ block_of old
  pub next : next_of new ≡ next_of old
  pub copies : copies_of new ≡ copies_of old

-- all is copied, and nothing is done
pub record Idles (old : Reclaim) (v : Values) (before : Flash) (new : Reclaim) (w : Values) (after : Flash) : Type 0 where
  pub all : AllCopied old v
  pub waits : Waits old new
  pub values : w ≡ v
  pub flash : after ≡ before

-- a block to copy into is taken
pub record Begins (old : Reclaim) (v : Values) (before : Flash) (new : Reclaim) (w : Values) (after : Flash) : Type 0 where
  pub page : ℕ
  pub next : IsNext old v page
  pub waits : Waits old new
  pub values : Copies v None w
  pub ops : after.ops ≡ ops_more before 1

-- the next page is copied
pub record CopiesNext (old : Reclaim) (v : Values) (before : Flash) (new : Reclaim) (w : Values) (after : Flash) : Type 0 where
  pub copy : CopyOf
  pub source : IsNext old v copy.source
  pub block : block_of new ≡ block_of old
  pub next : next_of new ≡ copy.source % 32 + 1
  pub copies : copies_of new ≡ copies_of old ++ copy ∷ []
  pub values : Copies v (Some copy.target) w
  pub ops : after.ops ≡ ops_more before 1

-- one of the three
abbrev pub Steps : Reclaim → Values → Flash → Reclaim → Values → Flash → Type 0
Steps old v before new w after = Idles old v before new w after ⊎ (Begins old v before new w after ⊎ CopiesNext old v before new w after)

-- the copy of a page that stands in this state was added
pub record Adds (old : Reclaim) (state : PageState) (source target : ℕ) (new : Reclaim) : Type 0 where
  pub block : block_of new ≡ block_of old
  pub next : next_of new ≡ source % 32 + 1
  pub copy : CopyOf
  pub source_is : copy.source ≡ source
  pub target_is : copy.target ≡ target
  pub key_is : copy.key ≡ key_in state
  pub size_is : copy.length ≡ size_in state
  pub copies : copies_of new ≡ copies_of old ++ copy ∷ []
