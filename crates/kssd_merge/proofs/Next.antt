-- Which entry is next, by the side on which it stands.
use Rattle.std.proofs.Common.{◌≡◌, ◌∙◌, true, List, [], ◌∷◌, refl, sym, ap}
use Rattle.std.specs.Prelude.{drop}
use Rattle.std.specs.declared.cmp.Ordering.{Ordering}
use Rattle.std.specs.declared.cmp.Ordering.TheVariants.{Less, Equal, Greater}
use Rattle.kssd_entry.specs.declared.entry.Entry.{Entry}
use Rattle.kssd_entry.specs.Spelling.{key_of}
use Rattle.kssd_model.specs.Rising.{key_cmp, is_rising, merged, by_order}
use Rattle.kssd_model.proofs.RisingEntries.{merged_newer, merged_both, merged_older, above_first}
use Rattle.kssd_merge.specs.declared.merge.Side.TheVariants.{Neither, Newer, Older, Both}
use Rattle.kssd_merge.specs.Sides.{side_in}

both_end : (newer older : List Entry) → side_in newer older ≡ Neither → merged newer older ≡ []
both_end [] [] h = refl
both_end [] (b ∷ older) h = absurd cc
both_end (a ∷ newer) [] h = absurd cc
both_end (a ∷ newer) (b ∷ older) h = by (key_cmp (key_of a) (key_of b)) h
  where
    by : (o : Ordering) → by_order o Newer Both Older ≡ Neither → merged (a ∷ newer) (b ∷ older) ≡ []
    by Less e = absurd cc
    by Equal e = absurd cc
    by Greater e = absurd cc

pub newer_next : (newer rest older : List Entry) (e : Entry) → is_rising newer ≡ true → is_rising older ≡ true → side_in newer older ≡ Newer → newer ≡ e ∷ rest → merged newer older ≡ e ∷ merged rest older
newer_next newer rest older e rising below side is = ap (λ (xs : List Entry). merged xs older) is ∙ by older below (sym (ap (λ (xs : List Entry). side_in xs older) is) ∙ side)
  where
    rising_is : is_rising (e ∷ rest) ≡ true
    rising_is = sym (ap is_rising is) ∙ rising

    order_is : (o : Ordering) → by_order o Newer Both Older ≡ Newer → o ≡ Less
    order_is Less h = refl
    order_is Equal h = absurd cc
    order_is Greater h = absurd cc

    by : (older : List Entry) → is_rising older ≡ true → side_in (e ∷ rest) older ≡ Newer → merged (e ∷ rest) older ≡ e ∷ merged rest older
    by [] below h = merged_newer e rest [] rising_is refl
    by (b ∷ older) below h = merged_newer e rest (b ∷ older) rising_is (above_first (key_of e) b older below (order_is (key_cmp (key_of e) (key_of b)) h))

pub older_next : (newer older rest : List Entry) (e : Entry) → is_rising newer ≡ true → side_in newer older ≡ Older → older ≡ e ∷ rest → merged newer older ≡ e ∷ merged newer rest
older_next newer older rest e rising side is = ap (λ (xs : List Entry). merged newer xs) is ∙ by newer rising (sym (ap (λ (xs : List Entry). side_in newer xs) is) ∙ side)
  where
    order_is : (o : Ordering) → by_order o Newer Both Older ≡ Older → o ≡ Greater
    order_is Less h = absurd cc
    order_is Equal h = absurd cc
    order_is Greater h = refl

    by : (newer : List Entry) → is_rising newer ≡ true → side_in newer (e ∷ rest) ≡ Older → merged newer (e ∷ rest) ≡ e ∷ merged newer rest
    by [] rising h = refl
    by (a ∷ newer) rising h = merged_older a newer e rest rising (order_is (key_cmp (key_of a) (key_of e)) h)

pub both_next : (newer rest older : List Entry) (e : Entry) → is_rising newer ≡ true → side_in newer older ≡ Both → newer ≡ e ∷ rest → merged newer older ≡ e ∷ merged rest (drop 1 older)
both_next newer rest older e rising side is = ap (λ (xs : List Entry). merged xs older) is ∙ by older (sym (ap (λ (xs : List Entry). side_in xs older) is) ∙ side)
  where
    rising_is : is_rising (e ∷ rest) ≡ true
    rising_is = sym (ap is_rising is) ∙ rising

    order_is : (o : Ordering) → by_order o Newer Both Older ≡ Both → o ≡ Equal
    order_is Less h = absurd cc
    order_is Equal h = refl
    order_is Greater h = absurd cc

    by : (older : List Entry) → side_in (e ∷ rest) older ≡ Both → merged (e ∷ rest) older ≡ e ∷ merged rest (drop 1 older)
    by [] h = absurd cc
    by (b ∷ older) h = merged_both e rest b older rising_is (order_is (key_cmp (key_of e) (key_of b)) h)
