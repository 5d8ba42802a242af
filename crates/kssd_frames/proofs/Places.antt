-- In which region the pages lie that are named.
use Rattle.std.proofs.Common.{◌≡◌, ◌∙◌, ℕ, zero, suc, ◌+◌, ◌/◌, ◌<◌, ◌≤◌, true, ltb, leb, List, [], ◌∷◌, ◌++◌, length, get_or, refl, sym, subst, arith, inl, inr, length-append}
use Rattle.std.specs.List.{All, Contains, list_all}
use Rattle.std.proofs.lemmas.Bool.{and_parts, cases_lt, lt-ltb, le-ltb, leb-true}
use Rattle.std.proofs.lemmas.List.{get_or_append_left, get_or-append-add}
use Rattle.std.proofs.lemmas.List.Elements.{All-nil, All-cons, All-head, All-tail}
use Rattle.kv_nand.specs.Flash.{Image}
use Rattle.kssd_layout.specs.Numbers.{region_in, first_value_block_in}
use Rattle.kssd_layout.specs.declared.region.Region.TheVariants.{Anchor, Log, Run, Value}
use Rattle.kssd_entry.specs.declared.entry.Entry.{Entry}
use Rattle.kssd_entry.specs.declared.entry.Entry.TheVariants.{Put, At, Gone}
use Rattle.kssd_model.specs.declared.runs.RunInfo.{RunInfo}
use Rattle.kssd_model.specs.RunPages.{run_page}
use Rattle.kssd_image.specs.ValuePages.{has_value}
use Rattle.kssd_image.specs.AnchorForm.{IsRunForm, blocks_of}
use Rattle.kssd_image.specs.Whole.{page_named, pages_named, is_value_block, has_its_value}

-- ---- regions

pub region_of_anchors : (blocks block : ℕ) → block < 2 → region_in blocks block ≡ Anchor
region_of_anchors blocks block h = rw (lt-ltb block 2 h) refl

pub region_of_log : (blocks block : ℕ) → 2 ≤ block → block < 20 → region_in blocks block ≡ Log
region_of_log blocks block low high = rw (le-ltb block 2 low, lt-ltb block 20 high) refl

pub region_of_values : (blocks block : ℕ) → first_value_block_in blocks ≤ block → region_in blocks block ≡ Value
region_of_values blocks block h = rw (le-ltb block 2 (omega arith), le-ltb block 20 (omega arith), le-ltb block (first_value_block_in blocks) h) refl

-- a block for runs lies behind the ring
pub run_is_behind : (blocks block : ℕ) → region_in blocks block ≡ Run → 20 ≤ block
run_is_behind blocks block h = elim (cases_lt block 20) [
  | inr le ↦ le
  | inl lt ↦ absurd (elim (cases_lt block 2) [
    | inl low ↦ let e : Anchor ≡ Run = sym (region_of_anchors blocks block low) ∙ h in cc
    | inr low ↦ let e : Log ≡ Run = sym (region_of_log blocks block low lt) ∙ h in cc
  ])
]

-- ---- what contains a block

contains_left : (xs ys : List ℕ) (x : ℕ) → Contains xs x → Contains (xs ++ ys) x
contains_left xs ys x h = (h.0, omega (arith, h.1, length-append xs ys), get_or_append_left xs ys x h.0 h.1 ∙ h.2)

contains_right : (xs ys : List ℕ) (x : ℕ) → Contains ys x → Contains (xs ++ ys) x
contains_right xs ys x h = (length xs + h.0, omega (arith, h.1, length-append xs ys), get_or-append-add xs ys h.0 x ∙ h.2)

pub contains_at : (xs : List ℕ) (k d : ℕ) → k < length xs → Contains xs (get_or xs k d)
contains_at xs k d lt = (k, lt, default xs k lt)
  where
    default : (xs : List ℕ) (k : ℕ) → k < length xs → get_or xs k (get_or xs k d) ≡ get_or xs k d
    default [] k lt = absurd (omega arith)
    default (x ∷ xs) zero lt = refl
    default (x ∷ xs) (suc k) lt = default xs k (omega arith)

-- ---- pages of runs

-- a page of a run lies in one of its blocks, which is for runs
pub run_page_place : (blocks : ℕ) (run : RunInfo) (i : ℕ) → IsRunForm blocks run → i < run.pages → Contains run.blocks (run_page run.blocks i / 32) × (region_in blocks (run_page run.blocks i / 32) ≡ Run)
run_page_place blocks run i form lt =
    let within : i / 32 < length run.blocks = omega (arith, form.block_count) in
    let block : get_or run.blocks (i / 32) 0 ≡ run_page run.blocks i / 32 = omega arith in
    (subst (Contains run.blocks) block (contains_at run.blocks (i / 32) 0 within), subst (λ b. region_in blocks b ≡ Run) block (form.region (i / 32) 0 within))

-- of all runs
pub record IsNamedRunPage (blocks : ℕ) (all : List ℕ) (page : ℕ) : Type 0 where
  pub named : Contains all (page / 32)
  pub region : region_in blocks (page / 32) ≡ Run

pub run_pages_named : (blocks : ℕ) (runs : List RunInfo) → All (IsRunForm blocks) runs → All (λ run. (i : ℕ) → i < run.pages → IsNamedRunPage blocks (blocks_of runs) (run_page run.blocks i)) runs
run_pages_named blocks runs forms = by runs forms (λ b h. h)
  where
    by : (rs : List RunInfo) → All (IsRunForm blocks) rs → ((b : ℕ) → Contains (blocks_of rs) b → Contains (blocks_of runs) b) → All (λ run. (i : ℕ) → i < run.pages → IsNamedRunPage blocks (blocks_of runs) (run_page run.blocks i)) rs
    by [] forms inside = All-nil _
    by (r ∷ rs) forms inside =
        All-cons (λ run. (i : ℕ) → i < run.pages → IsNamedRunPage blocks (blocks_of runs) (run_page run.blocks i)) r rs
        (λ i lt. let p = run_page_place blocks r i (All-head (IsRunForm blocks) r rs forms) lt in record { named = inside (run_page r.blocks i / 32) (contains_left r.blocks (blocks_of rs) (run_page r.blocks i / 32) p.0); region = p.1 })
        (by rs (All-tail (IsRunForm blocks) r rs forms) (λ b h. inside b (contains_right r.blocks (blocks_of rs) b h)))

-- ---- pages of values

-- a page that is named for a value lies in a block for values
pub record IsNamedValuePage (blocks : ℕ) (all : List ℕ) (page : ℕ) : Type 0 where
  pub named : Contains all page
  pub behind : first_value_block_in blocks ≤ page / 32

pub value_pages_named : (blocks : ℕ) (image : Image) (entries : List Entry) → list_all (has_its_value blocks image) entries ≡ true → All (IsNamedValuePage blocks (pages_named entries)) (pages_named entries)
value_pages_named blocks image entries whole = by entries whole (λ p h. h)
  where
    by : (es : List Entry) → list_all (has_its_value blocks image) es ≡ true → ((p : ℕ) → Contains (pages_named es) p → Contains (pages_named entries) p) → All (IsNamedValuePage blocks (pages_named entries)) (pages_named es)
    by [] whole inside = All-nil _
    by (e ∷ es) whole inside =
        let v = and_parts _ _ whole in
        first e v.0 inside (by es v.1 (λ p h. inside p (contains_right (page_named e) (pages_named es) p h)))
      where
        first : (e : Entry) → has_its_value blocks image e ≡ true → ((p : ℕ) → Contains (page_named e ++ pages_named es) p → Contains (pages_named entries) p) → All (IsNamedValuePage blocks (pages_named entries)) (pages_named es) → All (IsNamedValuePage blocks (pages_named entries)) (page_named e ++ pages_named es)
        first (Put k v) h inside rest = rest
        first (Gone k) h inside rest = rest
        first (At k page size) h inside rest =
            let place = and_parts (is_value_block blocks (page / 32)) (has_value k size (image page)) h in
            let low = leb-true (first_value_block_in blocks) (page / 32) (and_parts (leb (first_value_block_in blocks) (page / 32)) (ltb (page / 32) blocks) place.0).0 in
            All-cons (IsNamedValuePage blocks (pages_named entries)) page (pages_named es) (record { named = inside page (0, omega arith, refl); behind = low }) rest
