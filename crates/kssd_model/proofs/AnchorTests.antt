-- The tests of an anchor, as facts.
use Rattle.std.proofs.Common.{◌≡◌, Bool, true, false, ◌&&◌, refl, sym, ◌∙◌}
use Rattle.std.proofs.lemmas.Bool.{ltb-true, lt-ltb, leb-true, le-leb}
use Rattle.std.proofs.lemmas.List.Sums.{AllPass-from_list_all, list_all-from_AllPass}
use Rattle.std.specs.Prelude.{IsTrue, ◌↔◌}
use Rattle.kssd_model.specs.declared.anchor.Anchor.{Anchor}
use Rattle.kssd_model.specs.AnchorSpelling.{is_low, has_spelling, HasSpelling}

pub and_true : (a b : Bool) → (a && b) ≡ true → (a ≡ true) × (b ≡ true)
and_true true b e = (refl, e)
and_true false b e = absurd cc

pub and_both : (a b : Bool) → a ≡ true → b ≡ true → (a && b) ≡ true
and_both true b e f = f
and_both false b e f = absurd cc

pub spelling_is : (a : Anchor) → has_spelling a ≡ true → HasSpelling a
unfolding has_spelling
spelling_is a h =
    let one = and_true _ _ h in
    let two = and_true _ _ one.1 in
    let three = and_true _ _ two.1 in
    let four = and_true _ _ three.1 in
    record {
      number = ltb-true _ _ one.0;
      next_run = ltb-true _ _ two.0;
      log_seq = ltb-true _ _ three.0;
      runs = λ k d lt. ltb-true _ _ (AllPass-from_list_all is_low a.runs four.0 k d lt);
      room = leb-true _ _ four.1;
    }

pub is_spelling_of : (a : Anchor) → HasSpelling a → has_spelling a ≡ true
unfolding has_spelling
is_spelling_of a h =
    and_both _ _ (lt-ltb _ _ h.number) (and_both _ _ (lt-ltb _ _ h.next_run) (and_both _ _ (lt-ltb _ _ h.log_seq) (and_both _ _ (list_all-from_AllPass is_low a.runs (λ k d lt. lt-ltb _ _ (h.runs k d lt))) (le-leb _ _ h.room))))

-- what answers the test tells whether there is a spelling
pub spelling_told : (a : Anchor) (told : Bool) → told ≡ has_spelling a → IsTrue told ↔ HasSpelling a
spelling_told a told e = (λ t. spelling_is a (sym e ∙ t), λ h. e ∙ is_spelling_of a h)
