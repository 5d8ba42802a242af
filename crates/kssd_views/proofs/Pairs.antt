-- The pairs of what is left, and of what a transaction sees.
use Rattle.std.proofs.Common.{◌≡◌, ◌∙◌, ℕ, ◌≤◌, ◌<◌, ◌+◌, Bool, true, false, cond, not, ◌&&◌, List, [], ◌∷◌, ◌++◌, length, map, take, Option, Some, refl, sym, ap, subst, append_assoc, length-append, arith}
use Rattle.std.specs.List.{list_all}
use Rattle.std.proofs.lemmas.Bool.{and_parts}
use Rattle.std.proofs.lemmas.List.{map-append}
use Rattle.kv_base.specs.declared.pairs.Pair.{Pair}
use Rattle.kv_nand.specs.Flash.{Flash, Image}
use Rattle.kv_device.specs.Machine.{view}
use Rattle.kv_device.specs.Objects.{pair_of, pairs_from}
use Rattle.kssd_entry.specs.declared.entry.Entry.{Entry}
use Rattle.kssd_model.specs.OnlyReading.{OnlyReads}
use Rattle.kssd_model.specs.Rising.{is_below, entries_from, merged}
use Rattle.kssd_image.specs.Stages.{without_marks, shown_in}
use Rattle.kssd_image.specs.Whole.{has_its_value}
use Rattle.kssd_frames.proofs.Changes.{values_merge}
use Rattle.kssd_frames.proofs.Lookups.{marks_below}
use Rattle.kssd_merge.specs.declared.listed.Listed.{Listed}
use Rattle.kssd_merge.specs.Listed.{listed_rest}
use Rattle.kssd_levels.specs.declared.stream.Stream.{Stream}
use Rattle.kssd_levels.specs.Streams.{stream_rest, StandsStream}
use Rattle.kssd_tx.specs.Lists.{Transactions, changes_of}
use Rattle.kssd_machine.specs.Names.{are_rising, are_valued}
use Rattle.kssd_machine.specs.Machines.{machine_of}
use Rattle.kssd_machine.proofs.Seeing.{iterate_all, list_valued}
use Rattle.kssd_views.specs.Listing.{left_in, pairs_left, IsFirstPair}

-- ---- after mere reading

-- what is left has its values
abbrev AreLeftValued : Flash → Listed → Stream → Type 0
AreLeftValued flash own shown = list_all (has_its_value flash.blocks flash.image) (left_in flash.image own shown) ≡ true

pub valued_now : (old now : Flash) (own : Listed) (shown : Stream) → OnlyReads old now → list_all (has_its_value old.blocks old.image) (left_in old.image own shown) ≡ true → list_all (has_its_value now.blocks now.image) (left_in now.image own shown) ≡ true
valued_now old now own shown reads h = let P : Flash → Type 0 = λ f. AreLeftValued f own shown in subst P (sym reads.after) h

pub valued_before : (old now : Flash) (own : Listed) (shown : Stream) → OnlyReads old now → list_all (has_its_value now.blocks now.image) (left_in now.image own shown) ≡ true → list_all (has_its_value old.blocks old.image) (left_in old.image own shown) ≡ true
valued_before old now own shown reads h = let P : Flash → Type 0 = λ f. AreLeftValued f own shown in subst P reads.after h

-- ---- one pair more

pub few_more : (found more : List Pair) (pair : Pair) (n count : ℕ) → more ≡ found ++ pair ∷ [] → count ≡ length found → count < n → length more ≤ n
few_more found more pair n count is same below =
    let size : length more ≡ length found + length (pair ∷ []) = ap length is ∙ length-append found (pair ∷ []) in
    omega (arith, size, same, below)

pub left_more : (old now : Flash) (prefix : List ℕ) (own own_after : Listed) (shown shown_after : Stream) (all : List (List ℕ × List ℕ)) (found more : List Pair) (pair : Pair) (next : Option Pair) → OnlyReads old now
    → all ≡ map pair_of found ++ pairs_left old.image prefix (left_in old.image own shown)
    → IsFirstPair (pairs_left now.image prefix (left_in now.image own shown)) next (pairs_left now.image prefix (left_in now.image own_after shown_after)) → next ≡ Some pair → more ≡ found ++ pair ∷ []
    → all ≡ map pair_of more ++ pairs_left old.image prefix (left_in old.image own_after shown_after)
left_more old now prefix own own_after shown shown_after all found more pair next reads is first some grown =
    let image : now.image ≡ old.image = ap (λ (f : Flash). f.image) reads.after in
    let rest = pairs_left old.image prefix (left_in old.image own_after shown_after) in
    let P : Option Pair → Type 0 = λ o. IsFirstPair (pairs_left now.image prefix (left_in now.image own shown)) o (pairs_left now.image prefix (left_in now.image own_after shown_after)) in
    let Q : Image → Type 0 = λ i. pairs_left i prefix (left_in i own shown) ≡ pair_of pair ∷ pairs_left i prefix (left_in i own_after shown_after) in
    let come : pairs_left old.image prefix (left_in old.image own shown) ≡ pair_of pair ∷ rest = subst Q image (subst P some first) in
    is
    ∙ ap (λ (ps : List (List ℕ × List ℕ)). map pair_of found ++ ps) come
    ∙ sym (append_assoc (map pair_of found) (pair_of pair ∷ []) rest)
    ∙ ap (λ (ps : List (List ℕ × List ℕ)). ps ++ rest) (sym (map-append pair_of found (pair ∷ [])) ∙ sym (ap (map pair_of) grown))

-- ---- what is left at first

all_from_key : (p : Entry → Bool) (xs : List Entry) (key : List ℕ) → list_all p xs ≡ true → list_all p (entries_from xs key) ≡ true
all_from_key p [] key all = refl
all_from_key p (x ∷ xs) key all =
    let both = and_parts (p x) (list_all p xs) all in
    by (is_below key x) both.0 (all_from_key p xs key both.1)
  where
    by : (b : Bool) → p x ≡ true → list_all p (entries_from xs key) ≡ true → list_all p (cond (not b) (x ∷ entries_from xs key) (entries_from xs key)) ≡ true
    by true first rest = rest
    by false first rest = ap (λ b. b && list_all p (entries_from xs key)) first ∙ rest

-- the sources from a key on: its own changes, and entries that without marks are the visible ones
pub record AreSources (flash : Flash) (lists : Transactions) (tx : ℕ) (from : List ℕ) (own : Listed) (shown : Stream) : Type 0 where
  pub own_is : listed_rest own ≡ entries_from (changes_of lists tx) from
  pub visible : without_marks (stream_rest shown flash.image) ≡ entries_from (shown_in flash.image) from
  pub stands : StandsStream shown flash.blocks flash.image

left_is : (flash : Flash) (lists : Transactions) (tx : ℕ) (from : List ℕ) (own : Listed) (shown : Stream) → AreSources flash lists tx from own shown
    → left_in flash.image own shown ≡ without_marks (merged (entries_from (changes_of lists tx) from) (entries_from (shown_in flash.image) from))
left_is flash lists tx from own shown h =
    ap (λ (es : List Entry). without_marks (merged es (stream_rest shown flash.image))) h.own_is
    ∙ sym (marks_below (entries_from (changes_of lists tx) from) (stream_rest shown flash.image) h.stands.rising)
    ∙ ap (λ (es : List Entry). without_marks (merged (entries_from (changes_of lists tx) from) es)) h.visible

pub left_valued : (old now : Flash) (lists : Transactions) (tx : ℕ) (from : List ℕ) (own : Listed) (shown : Stream) → AreSources old lists tx from own shown → OnlyReads old now
    → are_valued old.blocks old.image lists ≡ true → list_all (has_its_value old.blocks old.image) (shown_in old.image) ≡ true
    → list_all (has_its_value now.blocks now.image) (left_in now.image own shown) ≡ true
left_valued old now lists tx from own shown h reads pending visible =
    let p = has_its_value old.blocks old.image in
    valued_now old now own shown reads (
    ap (list_all p) (left_is old lists tx from own shown h)
    ∙ values_merge old.blocks old.image (entries_from (changes_of lists tx) from) (entries_from (shown_in old.image) from) (all_from_key p (changes_of lists tx) from (list_valued old.blocks old.image lists tx pending)) (all_from_key p (shown_in old.image) from visible))

pub pairs_seen : (old now : Flash) (lists : Transactions) (tx n : ℕ) (from prefix : List ℕ) (own : Listed) (shown : Stream) (pairs : List (List ℕ × List ℕ)) → AreSources old lists tx from own shown → OnlyReads old now → are_rising lists ≡ true
    → pairs ≡ take n (pairs_left now.image prefix (left_in now.image own shown)) → pairs ≡ take n (pairs_from (view (machine_of old true lists) tx) from prefix)
pairs_seen old now lists tx n from prefix own shown pairs h reads rising given =
    let image : now.image ≡ old.image = ap (λ (f : Flash). f.image) reads.after in
    given
    ∙ ap (λ (i : Image). take n (pairs_left i prefix (left_in i own shown))) image
    ∙ ap (λ (es : List Entry). take n (pairs_left old.image prefix es)) (left_is old lists tx from own shown h)
    ∙ ap (take n) (sym (iterate_all old lists tx from prefix rising))
