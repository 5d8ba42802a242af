-- Looking up a key and putting an entry at the place of its key.
use Rattle.std.proofs.Common.{◌≡◌, ◌∙◌, ℕ, ◌<◌, Bool, true, false, List, length, set, Option, Some, None, sym, ap, subst, arith, inl, inr, ◌⊎◌, length-set}
use Rattle.std.specs.Prelude.{insert, IsSome}
use Rattle.std.proofs.lemmas.List.Edits.{length-insert}
use Rattle.kssd_entry.specs.declared.entry.Entry.{Entry}
use Rattle.kssd_entry.specs.Spelling.{key_of}
use Rattle.kssd_model.specs.Rising.{is_rising, find_entry, put_entry, IsPlace, HasAt}
use Rattle.kssd_model.proofs.RisingEntries.{has_it, has_other, not_found, put_here, put_new, is_rising-put}
use Rattle.kssd_table.specs.Table.{IsSortedTable}

pub put_at : (xs : List Entry) (i : ℕ) (e : Entry) (has : Bool) → IsPlace (key_of e) xs i → HasAt xs i (key_of e) has → has ≡ true → set xs i e ≡ put_entry xs e
put_at xs i e has place h is =
    let p = has_it xs i (key_of e) has h is in
    put_here xs e e i place p.0 (p.1 e)

pub sorted_at : (xs : List Entry) (i : ℕ) (e : Entry) (has : Bool) → IsSortedTable xs → IsPlace (key_of e) xs i → HasAt xs i (key_of e) has → has ≡ true → IsSortedTable (set xs i e)
sorted_at xs i e has sorted place h is = record {
  rising = ap is_rising (put_at xs i e has place h is) ∙ is_rising-put xs e sorted.rising;
  few = omega (arith, length-set xs i e, sorted.few);
}

pub put_in : (xs : List Entry) (i : ℕ) (e : Entry) (has : Bool) → IsPlace (key_of e) xs i → HasAt xs i (key_of e) has → has ≡ false → insert xs i e ≡ put_entry xs e
put_in xs i e has place h is = put_new xs e i place (has_other xs i (key_of e) has h is)

room_for : (xs : List Entry) (o : Option Entry) → o ≡ None → IsSome o ⊎ (length xs < 2048) → length xs < 2048
room_for xs None e (inl h) = absurd cc
room_for xs None e (inr h) = h
room_for xs (Some x) e h = absurd cc

pub sorted_in : (xs : List Entry) (i : ℕ) (e : Entry) (has : Bool) → IsSortedTable xs → IsSome (find_entry xs (key_of e)) ⊎ (length xs < 2048) → IsPlace (key_of e) xs i → HasAt xs i (key_of e) has → has ≡ false → IsSortedTable (insert xs i e)
sorted_in xs i e has sorted room place h is =
    let few : length xs < 2048 = room_for xs (find_entry xs (key_of e)) (not_found xs i (key_of e) has sorted.rising place h is) room in
    record {
      rising = ap is_rising (put_in xs i e has place h is) ∙ is_rising-put xs e sorted.rising;
      few = omega (arith, length-insert xs i e place.within, few);
    }

-- what is known of the map's value and of the entry's key, of its items and of the entry
pub record IsSearched (items : List Entry) (entry : Entry) (i : ℕ) (has : Bool) : Type 0 where
  pub place : IsPlace (key_of entry) items i
  pub has_at : HasAt items i (key_of entry) has

pub searched : (items now : List Entry) (entry : Entry) (first second : List ℕ) (i : ℕ) (has : Bool) → items ≡ now → first ≡ key_of entry → second ≡ key_of entry → IsPlace first now i → HasAt now i second has → IsSearched items entry i has
searched items now entry first second i has view e f place h = record {
  place = subst (λ (xs : List Entry). IsPlace (key_of entry) xs i) (sym view) (subst (λ (key : List ℕ). IsPlace key now i) e place);
  has_at = subst (λ (xs : List Entry). HasAt xs i (key_of entry) has) (sym view) (subst (λ (key : List ℕ). HasAt now i key has) f h);
}
