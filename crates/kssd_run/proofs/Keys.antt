-- Keys in order, and the place of one among them.
use Rattle.std.proofs.Common.{◌≡◌, ◌∙◌, ℕ, ◌≤◌, true, false, List, length, get_or, refl, sym, ap, arith, inl, inr}
use Rattle.std.specs.Ordering.{is_le, is_lt}
use Rattle.std.specs.declared.cmp.Ordering.{Ordering}
use Rattle.std.specs.declared.cmp.Ordering.TheVariants.{Less, Equal, Greater}
use Rattle.std.specs.List.Sorted.{IsPartitionPoint, IsPartitionedBy}
use Rattle.std.proofs.lemmas.Bool.{cases_lt}
use Rattle.kssd_model.specs.Rising.{key_cmp}
use Rattle.kssd_model.proofs.RisingEntries.{less_trans, same_right}
use Rattle.kssd_run.specs.Index.{IsPageOfKey, RisingKeys}

is_less : (o : Ordering) → is_lt o ≡ true → o ≡ Less
is_less Less h = refl
is_less Equal h = absurd cc
is_less Greater h = absurd cc

-- below what is at most a key is below the key
pub below_upto : (a b c : List ℕ) → key_cmp a b ≡ Less → is_le (key_cmp b c) ≡ true → key_cmp a c ≡ Less
below_upto a b c lt le = by (key_cmp b c) refl
  where
    by : (o : Ordering) → key_cmp b c ≡ o → key_cmp a c ≡ Less
    by Less h = less_trans a b c lt h
    by Equal h = sym (same_right b c a h) ∙ lt
    by Greater h = absurd (let e : true ≡ false = sym le ∙ ap is_le h in cc)

pub keys_partitioned : (keys : List (List ℕ)) (key : List ℕ) → RisingKeys keys → IsPartitionedBy (λ y. is_le (key_cmp y key)) keys
keys_partitioned keys key rising i j d le within upto =
    elim (cases_lt i j) [
      | inl lt ↦ ap is_le (below_upto _ _ key (is_less _ (rising i j d lt within)) upto)
      | inr other ↦ let same : i ≡ j = omega arith in ap (λ k. is_le (key_cmp (get_or keys k d) key)) same ∙ upto
    ]

pub page_from_point : (keys : List (List ℕ)) (key : List ℕ) (n : ℕ) → n ≤ length keys → IsPartitionPoint (λ y. is_le (key_cmp y key) ≡ true) (λ y. is_le (key_cmp y key) ≡ false) keys n → IsPageOfKey keys key n
page_from_point keys key n within h = record {
  within = within;
  upto = λ i d lt. h.0 i d (omega arith) lt;
  above = λ i d le lt. h.1 i d le lt;
}
