-- Entries that come one by one from two sources.
use Rattle.std.proofs.Common.{◌≡◌, ◌∙◌, ℕ, ◌≤◌, ◌<◌, Bool, true, false, cond, not, List, [], ◌∷◌, ◌++◌, length, take, Option, Some, None, unwrap_or, refl, sym, ap, subst, arith}
use Rattle.std.specs.Prelude.{nat_eq, IfSome}
use Rattle.std.specs.List.{list_all, starts_with}
use Rattle.std.proofs.lemmas.Bool.{and_parts}
use Rattle.std.proofs.lemmas.List.{take_all}
use Rattle.kv_nand.specs.Flash.{Flash, Image}
use Rattle.kssd_entry.specs.declared.entry.Entry.{Entry}
use Rattle.kssd_entry.specs.Spelling.{key_of}
use Rattle.kssd_model.specs.OnlyReading.{OnlyReads}
use Rattle.kssd_model.specs.Rising.{is_gone, is_below, is_rising, entries_from, merged}
use Rattle.kssd_model.proofs.RisingEntries.{is_rising-merged}
use Rattle.kssd_image.specs.Stages.{without_marks}
use Rattle.kssd_frames.proofs.Lookups.{rising_unmarked}
use Rattle.kssd_image.specs.Whole.{has_its_value}
use Rattle.kssd_merge.specs.Merge.{IsNext, counting, after_marks}
use Rattle.kssd_merge.specs.declared.listed.Listed.{Listed}
use Rattle.kssd_merge.specs.Listed.{listed_rest}
use Rattle.kssd_levels.specs.declared.stream.Stream.{Stream}
use Rattle.kssd_levels.specs.Streams.{stream_rest, StandsStream}
use Rattle.kssd_tx.specs.Lists.{Transactions, list_of, changes_of, IsChangeList}
use Rattle.kssd_machine.specs.Viewing.{with_prefix}
use Rattle.kssd_views.specs.Listing.{left_in, is_past}
use Rattle.kssd_views.proofs.Prefixes.{none_past}

-- ---- a transaction's own changes

few_from : (xs : List Entry) (key : List ℕ) → length (entries_from xs key) ≤ length xs
few_from [] key = omega arith
few_from (x ∷ xs) key = by (is_below key x) (few_from xs key)
  where
    by : (b : Bool) → length (entries_from xs key) ≤ length xs → length (cond (not b) (x ∷ entries_from xs key) (entries_from xs key)) ≤ Rattle.std.proofs.Common.suc (length xs)
    by true rest = omega arith
    by false rest = omega arith

few_changes : (o : Option (List Entry)) → IfSome o IsChangeList → length (unwrap_or o []) ≤ 640
few_changes None h = omega arith
few_changes (Some list) h = h.few

pub own_all : (lists : Transactions) (tx most : ℕ) (key : List ℕ) (own : List Entry) → 640 ≤ most → IfSome (list_of lists tx) IsChangeList → own ≡ take most (entries_from (changes_of lists tx) key) → own ≡ entries_from (changes_of lists tx) key
own_all lists tx most key own room few is =
    is ∙ take_all most (entries_from (changes_of lists tx) key) (omega (arith, few_from (changes_of lists tx) key, few_changes (list_of lists tx) few, room))

-- ---- the next entry that is no mark

heads : List Entry → List Entry
heads [] = []
heads (y ∷ ys) = y ∷ without_marks ys

first_gone : List Entry → Bool
first_gone [] = true
first_gone (y ∷ ys) = is_gone y

pub record IsNextKept (all rest : List Entry) (e : Entry) : Type 0 where
  pub left : without_marks all ≡ e ∷ without_marks rest
  pub kept : is_gone e ≡ false

pub next_kept : (all rest : List Entry) (e : Entry) → after_marks all ≡ e ∷ rest → IsNextKept all rest e
unfolding heads first_gone
next_kept [] rest e h = absurd (let k : true ≡ false = ap (λ (es : List Entry). is_empty es) h in cc)
  where
    is_empty : List Entry → Bool
    is_empty [] = true
    is_empty (y ∷ ys) = false
next_kept (x ∷ xs) rest e h = by (is_gone x) refl h (next_kept xs rest e)
  where
    by : (g : Bool) → is_gone x ≡ g → cond g (after_marks xs) (x ∷ xs) ≡ e ∷ rest → (after_marks xs ≡ e ∷ rest → IsNextKept xs rest e) → IsNextKept (x ∷ xs) rest e
    by true is h again = record { left = ap (λ g. cond (not g) (x ∷ without_marks xs) (without_marks xs)) is ∙ (again h).left; kept = (again h).kept }
    by false is h again = record { left = ap (λ g. cond (not g) (x ∷ without_marks xs) (without_marks xs)) is ∙ ap heads h; kept = sym (ap first_gone h) ∙ is }

pub none_kept : (all : List Entry) → after_marks all ≡ [] → without_marks all ≡ []
none_kept [] h = refl
none_kept (x ∷ xs) h = by (is_gone x) refl h (none_kept xs)
  where
    is_empty : List Entry → Bool
    is_empty [] = true
    is_empty (y ∷ ys) = false

    by : (g : Bool) → is_gone x ≡ g → cond g (after_marks xs) (x ∷ xs) ≡ [] → (after_marks xs ≡ [] → without_marks xs ≡ []) → without_marks (x ∷ xs) ≡ []
    by true is h again = ap (λ g. cond (not g) (x ∷ without_marks xs) (without_marks xs)) is ∙ again h
    by false is h again = absurd (let k : false ≡ true = ap is_empty h in cc)

-- what is left rises
pub left_rises : (own : Listed) (shown : Stream) (blocks : ℕ) (image : Image) → StandsStream shown blocks image → is_rising (left_in image own shown) ≡ true
left_rises own shown blocks image h = rising_unmarked (merged (listed_rest own) (stream_rest shown image)) (is_rising-merged (listed_rest own) (stream_rest shown image) h.rising)

-- ---- by a prefix

pub first_with : (prefix : List ℕ) (all rest : List Entry) (e : Entry) → all ≡ e ∷ rest → starts_with nat_eq (key_of e) prefix ≡ true → with_prefix prefix all ≡ e ∷ with_prefix prefix rest
first_with prefix all rest e is has = ap (with_prefix prefix) is ∙ ap (λ b. cond b (e ∷ with_prefix prefix rest) (with_prefix prefix rest)) has

pub first_without : (prefix : List ℕ) (all rest : List Entry) (e : Entry) → all ≡ e ∷ rest → starts_with nat_eq (key_of e) prefix ≡ false → with_prefix prefix all ≡ with_prefix prefix rest
first_without prefix all rest e is has = ap (with_prefix prefix) is ∙ ap (λ b. cond b (e ∷ with_prefix prefix rest) (with_prefix prefix rest)) has

pub past_none : (prefix : List ℕ) (all rest : List Entry) (e : Entry) → is_rising all ≡ true → all ≡ e ∷ rest → is_past prefix (key_of e) ≡ true → with_prefix prefix all ≡ []
past_none prefix all rest e rising is past = ap (with_prefix prefix) is ∙ none_past prefix e rest past (sym (ap is_rising is) ∙ rising)

-- ---- one entry more

-- an entry has come: it is no mark, it has its value, and so have those that are left
pub record HasCome (flash : Flash) (own : Listed) (shown : Stream) (own_after : Listed) (shown_after : Stream) (e : Entry) : Type 0 where
  pub left : left_in flash.image own shown ≡ e ∷ left_in flash.image own_after shown_after
  pub kept : is_gone e ≡ false
  pub value : has_its_value flash.blocks flash.image e ≡ true
  pub valued : list_all (has_its_value flash.blocks flash.image) (left_in flash.image own_after shown_after) ≡ true

pub has_come : (old now : Flash) (own : Listed) (shown : Stream) (own_after : Listed) (shown_after : Stream) (next : Option Entry) (e : Entry) → OnlyReads old now → next ≡ Some e
    → IsNext (counting true (merged (listed_rest own) (stream_rest shown now.image))) next (merged (listed_rest own_after) (stream_rest shown_after now.image))
    → list_all (has_its_value old.blocks old.image) (left_in old.image own shown) ≡ true → HasCome old own shown own_after shown_after e
has_come old now own shown own_after shown_after next e reads some is valued =
    let image : now.image ≡ old.image = ap (λ (f : Flash). f.image) reads.after in
    let P : Option Entry → Type 0 = λ o. IsNext (after_marks (merged (listed_rest own) (stream_rest shown now.image))) o (merged (listed_rest own_after) (stream_rest shown_after now.image)) in
    let Q : Image → Type 0 = λ i. after_marks (merged (listed_rest own) (stream_rest shown i)) ≡ e ∷ merged (listed_rest own_after) (stream_rest shown_after i) in
    let come = next_kept (merged (listed_rest own) (stream_rest shown old.image)) (merged (listed_rest own_after) (stream_rest shown_after old.image)) e (subst Q image (subst P some is)) in
    let all = and_parts (has_its_value old.blocks old.image e) (list_all (has_its_value old.blocks old.image) (left_in old.image own_after shown_after)) (sym (ap (list_all (has_its_value old.blocks old.image)) come.left) ∙ valued) in
    record { left = come.left; kept = come.kept; value = all.0; valued = all.1 }

pub none_come : (old now : Flash) (own : Listed) (shown : Stream) (next : Option Entry) (after : List Entry) → OnlyReads old now → next ≡ None
    → IsNext (counting true (merged (listed_rest own) (stream_rest shown now.image))) next after → left_in old.image own shown ≡ []
none_come old now own shown next after reads none is =
    let image : now.image ≡ old.image = ap (λ (f : Flash). f.image) reads.after in
    let P : Option Entry → Type 0 = λ o. IsNext (after_marks (merged (listed_rest own) (stream_rest shown now.image))) o after in
    let Q : Image → Type 0 = λ i. after_marks (merged (listed_rest own) (stream_rest shown i)) ≡ [] in
    none_kept (merged (listed_rest own) (stream_rest shown old.image)) (subst Q image (subst P none is).0)

-- it stands as before, after mere reading
pub stands_before : (old now : Flash) (shown : Stream) → OnlyReads old now → StandsStream shown now.blocks now.image → StandsStream shown old.blocks old.image
stands_before old now shown reads h = let P : Flash → Type 0 = λ f. StandsStream shown f.blocks f.image in subst P reads.after h

pub fewer : (all rest : List Entry) (e : Entry) → all ≡ e ∷ rest → length rest < length all
fewer all rest e is = let same : length all ≡ length (e ∷ rest) = ap length is in omega (arith, same)
