-- Anchors in bytes: each has at most one spelling.
use Rattle.std.specs.Prelude.{◌≡◌, ◌<◌, ◌≤◌, ◌+◌, ◌*◌, ◌^◌, ℕ, Bool, true, ◌&&◌, nat_lt, nat_le, List, ◌∷◌, ◌++◌, length, All, sum_by}
use Rattle.std.specs.List.{flat_map, list_all}
use Rattle.std.specs.Int.{w16, w32, w64, to_be_bytes}
use Rattle.kssd_entry.specs.Spelling.{page_bytes}
use Rattle.kssd_entry.specs.declared.packer.PageHead.{PageHead}
use Rattle.kssd_model.specs.declared.runs.RunInfo.{RunInfo}
use Rattle.kssd_model.specs.declared.anchor.Anchor.{Anchor}

-- blocks in two bytes each
abbrev pub blocks_bytes : List ℕ → List ℕ
blocks_bytes blocks = flat_map (to_be_bytes w16) blocks

-- a run: its level, number, entries and pages, and its blocks behind their number
unfoldable pub run_bytes : RunInfo → List ℕ
run_bytes run = run.level ∷ (to_be_bytes w64 run.number ++ (to_be_bytes w32 run.entries ++ (to_be_bytes w32 run.pages ++ (to_be_bytes w16 (length run.blocks) ++ blocks_bytes run.blocks))))

-- runs one after the other
abbrev pub runs_bytes : List RunInfo → List ℕ
runs_bytes runs = flat_map run_bytes runs

-- the blocks of the device, the next run's number, where the log begins with its number, and the runs behind their number
unfoldable pub anchor_bytes : Anchor → List ℕ
anchor_bytes a = to_be_bytes w16 a.blocks ++ (to_be_bytes w64 a.next_run ++ (to_be_bytes w16 a.log_block ++ (to_be_bytes w64 a.log_seq ++ (to_be_bytes w16 (length a.runs) ++ runs_bytes a.runs))))

-- the spare bytes of an anchor's page: kind 1 and its number
abbrev pub anchor_head : ℕ → PageHead
anchor_head number = record { kind = 1; flags = 0; number = number; index = 0 }

-- the page of an anchor, zero where nothing stands
unfoldable pub anchor_page : Anchor → List ℕ
anchor_page a = page_bytes (anchor_head a.number) (anchor_bytes a) 0

-- the bytes of a run
abbrev pub run_size : RunInfo → ℕ
run_size run = 19 + 2 * length run.blocks

-- the data bytes of an anchor
abbrev pub anchor_size : Anchor → ℕ
anchor_size a = 22 + sum_by run_size a.runs

-- what the types say of a run
unfoldable pub fits_run : RunInfo → Bool
fits_run run = nat_lt run.level 256 && (nat_lt run.entries (2 ^ 32) && (nat_lt run.pages (2 ^ 32) && list_all (λ block. nat_lt block (2 ^ 16)) run.blocks))

-- what the types say of an anchor
unfoldable pub fits_anchor : Anchor → Bool
fits_anchor a = nat_lt a.blocks (2 ^ 16) && (nat_lt a.log_block (2 ^ 16) && list_all fits_run a.runs)

-- the number of a run is below 2^63
abbrev pub is_low : RunInfo → Bool
is_low run = nat_lt run.number (2 ^ 63)

-- every number of eight bytes is below 2^63, and the data fit a page
unfoldable pub has_spelling : Anchor → Bool
has_spelling a = nat_lt a.number (2 ^ 63) && (nat_lt a.next_run (2 ^ 63) && (nat_lt a.log_seq (2 ^ 63) && (list_all is_low a.runs && nat_le (anchor_size a) 4096)))

-- the same as facts
pub record HasSpelling (a : Anchor) : Type 0 where
  pub number : a.number < 2 ^ 63
  pub next_run : a.next_run < 2 ^ 63
  pub log_seq : a.log_seq < 2 ^ 63
  pub runs : All (λ run. run.number < 2 ^ 63) a.runs
  pub room : anchor_size a ≤ 4096

-- the bytes are the anchor's spelling
pub record IsSpelled (bytes : List ℕ) (a : Anchor) : Type 0 where
  pub page : bytes ≡ anchor_page a
  pub fits : fits_anchor a ≡ true
  pub spelling : HasSpelling a
