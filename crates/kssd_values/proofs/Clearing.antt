-- A block is cleared, and copying is over.
use Rattle.std.proofs.Common.{◌≡◌, ◌≢◌, ◌∙◌, ℕ, ◌+◌, ◌/◌, ◌<◌, ◌⊎◌, length, Bool, true, false, cond, List, get_or, set, Option, Some, None, refl, sym, ap, subst, arith, inl, inr, get_or-set_same, get_or-set_other}
use Rattle.std.specs.Prelude.{◌&&◌, eqb, is_some, count_by}
use Rattle.std.proofs.lemmas.Bool.{false≢true, eq-eqb, ne_eqb, cases_eq}
use Rattle.kssd_values.specs.declared.filling.Filling.{Filling}
use Rattle.kssd_values.specs.declared.mark.Mark.{Mark}
use Rattle.kssd_values.specs.declared.mark.Mark.TheVariants.{Dead}
use Rattle.kssd_values.specs.declared.values.Values.{Values}
use Rattle.kssd_values.specs.Places.{AreValues, is_in, next_in, room_in, opened_when_over}
use Rattle.kssd_values.specs.Blocks.{device_of, state_at, is_live_at, open_room, has_target, IsClosed}
use Rattle.kssd_values.specs.Changes.{Clears, open_target, close_target, after_clear}
use Rattle.kssd_values.proofs.Sound.{freed_sound, moved_sound, dropped_sound, count_freed}
use Rattle.kssd_values.proofs.States.{by_tests, closed_to, opens_target, closes_target}

over_sound : (device : ℕ) (marks : List Mark) (free : List Bool) (opened target : Option Filling) (b : Bool) → AreValues device marks free opened target → AreValues device marks free (cond b target opened) None
over_sound device marks free opened target true h = moved_sound device marks free opened target h
over_sound device marks free opened target false h = dropped_sound device marks free opened target h

module _ (old : Values) (block : ℕ) (closed : IsClosed old block) where
  tests : (is_in old.opened block ≡ false) × (is_in old.target block ≡ false) × (get_or old.free.items block false ≡ false)
  tests = closed_to (is_in old.opened block) (is_in old.target block) (get_or old.free.items block false) closed.closed

  pub sound_clear : (opened : Option Filling) → opened ≡ opened_when_over old.opened old.target → ((page : ℕ) → page / 32 ≡ block → is_live_at old page ≡ false) → AreValues old.layout.blocks old.marks.items (set old.free.items block true) opened None
  sound_clear opened e dead =
      subst (λ o. AreValues old.layout.blocks old.marks.items (set old.free.items block true) o None) (sym e)
      (over_sound old.layout.blocks old.marks.items (set old.free.items block true) old.opened old.target (is_some old.target && eqb (room_in old.opened) 0)
      (freed_sound old.layout.blocks old.marks.items old.free.items old.opened old.target old.sound block closed.value tests.0 tests.1 dead))

  module _ (new : Values) (device : device_of new ≡ device_of old) (marks : new.marks.items ≡ old.marks.items) (free : new.free.items ≡ set old.free.items block true) (opened : new.opened ≡ opened_when_over old.opened old.target) (target : new.target ≡ None) where
    by_states : (o : Option Filling) → new.opened ≡ o → (b : ℕ) → state_at new b ≡ by_tests (is_in o b) (is_in None b) (get_or (set old.free.items block true) b false)
    by_states o e b = λ i. by_tests (is_in (e i) b) (is_in (target i) b) (get_or (free i) b false)

    none_is : (t : Option Filling) → is_some t ≡ false → t ≡ None
    none_is None e = refl
    none_is (Some f) e = absurd (false≢true (sym e))

    idle_opened : has_target old ≡ false → new.opened ≡ old.opened
    idle_opened e = opened ∙ ap (λ b. cond (b && eqb (room_in old.opened) 0) old.target old.opened) e

    over_opened : has_target old ≡ true → open_room old ≡ 0 → new.opened ≡ old.target
    over_opened e z = opened ∙ (λ i. cond (e i && eq-eqb (room_in old.opened) 0 z i) old.target old.opened)

    over_closed : has_target old ≡ true → (open_room old ≡ 0 → ⊥) → new.opened ≡ old.opened
    over_closed e ne = opened ∙ (λ i. cond (e i && ne_eqb (room_in old.opened) 0 ne i) old.target old.opened)

    in_over : (b : Bool) → is_in (cond b old.target old.opened) block ≡ false
    in_over true = tests.1
    in_over false = tests.0

    within : block < length old.free.items
    within = omega (arith, closed.value.last, old.sound.blocks)

    pub clears : Clears old block new
    clears = record {
      device = device;
      marks = λ q. ap (λ (m : List Mark). get_or m q Dead) marks;
      now = by_states (opened_when_over old.opened old.target) opened block
          ∙ (λ i. by_tests (in_over (is_some old.target && eqb (room_in old.opened) 0) i) false (get_or-set_same old.free.items block true false within i));
      free = ap (λ (fr : List Bool). count_by (λ x. x) fr) free ∙ count_freed old.free.items block within tests.2;
      over = ap is_some target;
      idle = λ e. (
        λ other ne. by_states old.opened (idle_opened e) other
            ∙ (λ i. by_tests (is_in old.opened other) (is_in (sym (none_is old.target e) i) other) (get_or-set_other old.free.items block other true false ne i)),
        record { room = ap room_in (idle_opened e); next = ap next_in (idle_opened e) },
      );
      copying = λ e other ne. copying e other ne (cases_eq (open_room old) 0);
      opens = λ e z. opens e z;
      closes = λ e ne. record { room = ap room_in (over_closed e ne); next = ap next_in (over_closed e ne) };
    }
      where
        copying : has_target old ≡ true → (other : ℕ) → other ≢ block → (open_room old ≡ 0) ⊎ (open_room old ≡ 0 → ⊥) → state_at new other ≡ after_clear old (state_at old other)
        copying e other ne (inl z) =
            by_states old.target (over_opened e z) other
            ∙ opens_target old.layout.blocks old.marks.items old.free.items old.opened old.target old.sound block other ne
            ∙ sym (ap (λ b. cond b (open_target (state_at old other)) (close_target (state_at old other))) (eq-eqb (room_in old.opened) 0 z))
        copying e other ne (inr nz) =
            by_states old.opened (over_closed e nz) other
            ∙ closes_target old.layout.blocks old.marks.items old.free.items old.opened old.target old.sound block other ne
            ∙ sym (ap (λ b. cond b (open_target (state_at old other)) (close_target (state_at old other))) (ne_eqb (room_in old.opened) 0 nz))

        filled : (t : Option Filling) → old.target ≡ t → is_some t ≡ true → room_in t + next_in t ≡ 32
        filled None is e = absurd (false≢true e)
        filled (Some f) is e = omega (arith, (old.sound.target_is f is).within)

        opens : has_target old ≡ true → open_room old ≡ 0 → (next_in new.opened ≡ next_in old.target) × (room_in new.opened + next_in new.opened ≡ 32)
        opens e z = (ap next_in (over_opened e z), ap (λ o. room_in o + next_in o) (over_opened e z) ∙ filled old.target refl e)
