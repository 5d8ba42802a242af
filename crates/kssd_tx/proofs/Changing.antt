-- The changes of one transaction, with one more and with others' pages.
use Rattle.std.proofs.Common.{◌≡◌, ◌∙◌, ℕ, ◌+◌, ◌<◌, ◌≤◌, Bool, true, false, cond, ◌&&◌, List, [], ◌∷◌, length, get_or, set, take, drop, ◌++◌, map, refl, sym, ap, subst, arith, length-set}
use Rattle.std.specs.Prelude.{insert, is_some}
use Rattle.std.specs.List.{list_all}
use Rattle.std.specs.Ordering.{is_lt}
use Rattle.std.proofs.lemmas.Bool.{eq-eqb, ne_eqb}
use Rattle.std.proofs.lemmas.List.{length-map, take_all, drop_all, append-nil, take_at}
use Rattle.std.proofs.lemmas.List.Edits.{length-insert, map_over_more}
use Rattle.kv_base.specs.declared.key.Key.{Key}
use Rattle.kssd_entry.specs.declared.entry.Entry.{Entry}
use Rattle.kssd_entry.specs.declared.entry.Entry.TheVariants.{Put, At, Gone}
use Rattle.kssd_entry.specs.Spelling.{key_of}
use Rattle.kssd_model.specs.Rising.{is_rising, key_cmp, find_entry, put_entry, IsPlace, HasAt}
use Rattle.kssd_model.proofs.RisingEntries.{has_it, has_other, not_found, put_here, put_new, is_rising-put}
use Rattle.kssd_tx.specs.Lists.{IsChangeList, repointed}

-- what is known of the place of an entry's key
pub record IsSearched (xs : List Entry) (e : Entry) (i : ℕ) (has : Bool) : Type 0 where
  pub place : IsPlace (key_of e) xs i
  pub has_at : HasAt xs i (key_of e) has

pub searched : (xs : List Entry) (e : Entry) (first second : List Entry) (key other : List ℕ) (i : ℕ) (has : Bool) → first ≡ xs → second ≡ xs → key ≡ key_of e → other ≡ key_of e → IsPlace key first i → HasAt second i other has → IsSearched xs e i has
searched xs e first second key other i has same again k o place h = record {
  place = subst (λ (ys : List Entry). IsPlace (key_of e) ys i) same (subst (λ (k : List ℕ). IsPlace k first i) k place);
  has_at = subst (λ (ys : List Entry). HasAt ys i (key_of e) has) again (subst (λ (k : List ℕ). HasAt second i k has) o h);
}

pub put_at : (xs : List Entry) (e : Entry) (i : ℕ) (has : Bool) → IsSearched xs e i has → has ≡ true → set xs i e ≡ put_entry xs e
put_at xs e i has s is =
    let p = has_it xs i (key_of e) has s.has_at is in
    put_here xs e e i s.place p.0 (p.1 e)

pub put_in : (xs : List Entry) (e : Entry) (i : ℕ) (has : Bool) → IsSearched xs e i has → has ≡ false → insert xs i e ≡ put_entry xs e
put_in xs e i has s is = put_new xs e i s.place (has_other xs i (key_of e) has s.has_at is)

pub list_at : (xs : List Entry) (e : Entry) (i : ℕ) (has : Bool) → IsChangeList xs → IsSearched xs e i has → has ≡ true → IsChangeList (set xs i e)
list_at xs e i has sound s is = record {
  rising = ap is_rising (put_at xs e i has s is) ∙ is_rising-put xs e sound.rising;
  few = omega (arith, length-set xs i e, sound.few);
}

new_key : (xs : List Entry) (e : Entry) (i : ℕ) (has : Bool) → IsChangeList xs → IsSearched xs e i has → has ≡ false → is_some (find_entry xs (key_of e)) ≡ false
new_key xs e i has sound s is = ap is_some (not_found xs i (key_of e) has sound.rising s.place s.has_at is)

pub list_in : (xs : List Entry) (e : Entry) (i : ℕ) (has : Bool) → IsChangeList xs → (is_some (find_entry xs (key_of e)) ≡ false → length xs < 640) → IsSearched xs e i has → has ≡ false → IsChangeList (insert xs i e)
list_in xs e i has sound room s is =
    let few : length xs < 640 = room (new_key xs e i has sound s is) in
    record {
      rising = ap is_rising (put_in xs e i has s is) ∙ is_rising-put xs e sound.rising;
      few = omega (arith, length-insert xs i e s.place.within, few);
    }

pub length_at : (xs : List Entry) (e : Entry) (i : ℕ) (found : Bool) → length (set xs i e) ≤ length xs + cond found 0 1
length_at xs e i true = omega (arith, length-set xs i e)
length_at xs e i false = omega (arith, length-set xs i e)

pub length_in : (xs : List Entry) (e : Entry) (i : ℕ) (has : Bool) → IsChangeList xs → IsSearched xs e i has → has ≡ false → length (insert xs i e) ≤ length xs + cond (is_some (find_entry xs (key_of e))) 0 1
length_in xs e i has sound s is =
    subst (λ (b : Bool). length (insert xs i e) ≤ length xs + cond b 0 1) (sym (new_key xs e i has sound s is)) (omega (arith, length-insert xs i e s.place.within))

-- ---- other pages

key_of-repointed : (page other : ℕ) (e : Entry) → key_of (repointed page other e) ≡ key_of e
key_of-repointed page other (Put key value) = refl
key_of-repointed page other (At key at len) = refl
key_of-repointed page other (Gone key) = refl

above-repointed : (page other : ℕ) (key : List ℕ) (xs : List Entry) → list_all (λ f. is_lt (key_cmp key (key_of f))) (map (repointed page other) xs) ≡ list_all (λ f. is_lt (key_cmp key (key_of f))) xs
above-repointed page other key [] = refl
above-repointed page other key (x ∷ xs) =
    λ i. is_lt (key_cmp key (key_of-repointed page other x i)) && above-repointed page other key xs i

is_rising-repointed : (page other : ℕ) (xs : List Entry) → is_rising (map (repointed page other) xs) ≡ is_rising xs
is_rising-repointed page other [] = refl
is_rising-repointed page other (x ∷ xs) =
    (λ i. list_all (λ f. is_lt (key_cmp (key_of-repointed page other x i) (key_of f))) (map (repointed page other) xs) && is_rising-repointed page other xs i)
    ∙ ap (λ (b : Bool). b && is_rising xs) (above-repointed page other (key_of x) xs)

pub list_repointed : (page other : ℕ) (xs : List Entry) → IsChangeList xs → IsChangeList (map (repointed page other) xs)
list_repointed page other xs sound = record {
  rising = is_rising-repointed page other xs ∙ sound.rising;
  few = omega (arith, length-map xs (repointed page other), sound.few);
}

-- an entry that names the page, and one that names another
pub repointed_here : (page other at : ℕ) (key : List ℕ) (len : ℕ) → at ≡ page → At key other len ≡ repointed page other (At key at len)
repointed_here page other at key len e = ap (λ (b : Bool). At key (cond b other at) len) (sym (eq-eqb at page e))

pub repointed_there : (page other at : ℕ) (key : List ℕ) (len : ℕ) → (at ≡ page → ⊥) → At key at len ≡ repointed page other (At key at len)
repointed_there page other at key len ne = ap (λ (b : Bool). At key (cond b other at) len) (sym (ne_eqb at page ne))

pub repointed_other : (page other : ℕ) (e : Entry) → ((key : Key) (at len : ℕ) → e ≡ At key at len → ⊥) → e ≡ repointed page other e
repointed_other page other (Put key value) h = refl
repointed_other page other (At key at len) h = absurd (h key at len refl)
repointed_other page other (Gone key) h = refl

-- one more entry of a list is done
pub repointed_more : (page other : ℕ) (xs ys zs : List Entry) (i : ℕ) (x y : Entry) → i < length xs → ys ≡ map (repointed page other) (take i xs) ++ drop i xs → x ≡ get_or ys i x → zs ≡ set ys i y → y ≡ repointed page other x → zs ≡ map (repointed page other) (take (i + 1) xs) ++ drop (i + 1) xs
repointed_more page other xs ys zs i x y low done is e f =
    e ∙ ap (set ys i) f ∙ map_over_more (repointed page other) xs ys i x low done is

-- all are done
pub repointed_all : (page other : ℕ) (items xs ys : List Entry) (i n : ℕ) → xs ≡ items → length xs ≤ i → ys ≡ map (repointed page other) (take i xs) ++ drop i xs → length ys ≡ length xs → n ≡ length items → take n (ys ++ drop (length ys) items) ≡ map (repointed page other) items
repointed_all page other items xs ys i n same past done len whole =
    take_at ys (drop (length ys) items) n (len ∙ ap length same ∙ sym whole)
    ∙ done
    ∙ (λ j. map (repointed page other) (take_all i xs past j) ++ drop_all i xs past j)
    ∙ append-nil (map (repointed page other) xs)
    ∙ ap (map (repointed page other)) same
