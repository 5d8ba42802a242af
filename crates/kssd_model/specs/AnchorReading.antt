-- Reading an anchor: what the bytes of a page say, where they are its spelling.
use Rattle.std.specs.Prelude.{ℕ, zero, suc, Bool, ◌&&◌, nat_lt, List, [], ◌∷◌, length, take, drop, Option, Some, None, if◌then◌else◌}
use Rattle.std.specs.Int.{Width, w16, w32, w64, byte_len, from_be_bytes}
use Rattle.std.specs.Str.{bytes_eq}
use Rattle.kssd_entry.specs.Reading.{head_in}
use Rattle.kssd_model.specs.declared.runs.RunInfo.{RunInfo}
use Rattle.kssd_model.specs.declared.anchor.Anchor.{Anchor}
use Rattle.kssd_model.specs.AnchorSpelling.{anchor_page, fits_anchor, has_spelling}

infixl 10 ◌>>=◌
abbrev pub ◌>>=◌ : {A B : Type 0} → Option A → (A → Option B) → Option B
None >>= f = None
(Some x) >>= f = f x

-- the number in the first bytes, and the bytes after it
abbrev pub number_at : Width → List ℕ → Option (ℕ × List ℕ)
number_at w bytes = if nat_lt (length bytes) (byte_len w) then None else Some (from_be_bytes w (take (byte_len w) bytes), drop (byte_len w) bytes)

-- the first byte, and the bytes after it
abbrev pub byte_at : List ℕ → Option (ℕ × List ℕ)
byte_at [] = None
byte_at (byte ∷ bytes) = Some (byte, bytes)

-- so many of what one reading gives, one after the other
unfoldable pub many_at : {X : Type 0} → (List ℕ → Option (X × List ℕ)) → ℕ → List ℕ → Option (List X × List ℕ)
many_at one zero bytes = Some ([], bytes)
many_at one (suc n) bytes = do
  first ← one bytes
  others ← many_at one n first.1
  Some (first.0 ∷ others.0, others.1)

-- a run
unfoldable pub run_at : List ℕ → Option (RunInfo × List ℕ)
run_at bytes = do
  level ← byte_at bytes
  number ← number_at w64 level.1
  entries ← number_at w32 number.1
  pages ← number_at w32 entries.1
  count ← number_at w16 pages.1
  blocks ← many_at (number_at w16) count.0 count.1
  Some (record { level = level.0; number = number.0; entries = entries.0; pages = pages.0; blocks = blocks.0 }, blocks.1)

-- the anchor of this number whose data the bytes begin with
unfoldable pub data_at : ℕ → List ℕ → Option Anchor
data_at number bytes = do
  blocks ← number_at w16 bytes
  next_run ← number_at w64 blocks.1
  log_block ← number_at w16 next_run.1
  log_seq ← number_at w64 log_block.1
  count ← number_at w16 log_seq.1
  runs ← many_at run_at count.0 count.1
  Some (record { number = number; blocks = blocks.0; next_run = next_run.0; log_block = log_block.0; log_seq = log_seq.0; runs = runs.0 })

-- what a page says, whatever it is
abbrev pub said_in : List ℕ → Option Anchor
said_in page = data_at (head_in (drop 4096 page)).number (take 4096 page)

-- the page is the anchor's spelling
unfoldable pub is_spelling : List ℕ → Anchor → Bool
is_spelling page a = fits_anchor a && (has_spelling a && bytes_eq (anchor_page a) page)

-- the anchor where the page is the spelling of what it says
abbrev pub checked : List ℕ → Anchor → Option Anchor
checked page a = if is_spelling page a then Some a else None

-- the anchor that a page reads as
unfoldable pub anchor_at : List ℕ → Option Anchor
anchor_at page = said_in page >>= checked page
