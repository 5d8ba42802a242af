-- A block is free, or one is being copied into.
use Rattle.std.proofs.Common.{◌≡◌, ◌≢◌, ◌∙◌, ℕ, zero, suc, ◌+◌, ◌-◌, ◌*◌, ◌/◌, ◌<◌, ◌≤◌, inl, inr, Bool, true, false, cond, not, ◌||◌, eqb, List, [], ◌∷◌, length, Option, refl, sym, ap, subst, arith}
use Rattle.std.specs.List.{list_any, list_all, range_with_len}
use Rattle.std.proofs.lemmas.Bool.{and_parts, cases_eq, cases_lt}
use Rattle.std.proofs.lemmas.List.{get_or_past}
use Rattle.std.proofs.lemmas.List.Sums.{get_or-le-sum_by}
use Rattle.kssd_layout.specs.Numbers.{value_blocks_in, first_value_block_in}
use Rattle.kssd_entry.specs.declared.entry.Entry.{Entry}
use Rattle.kssd_image.specs.Whole.{pages_named, is_unnamed, leaves_a_block}
use Rattle.kssd_values.specs.declared.values.Values.{Values}
use Rattle.kssd_values.specs.Places.{IsValueBlock}
use Rattle.kssd_values.specs.Blocks.{Free, Closed, device_of, state_at, open_room, has_target, free_count, free_room}
use Rattle.kssd_values.specs.Changes.{SamePlaces, Puts, Copies, Clears}
use Rattle.kssd_machine.specs.Marked.{HasBlock}
use Rattle.kssd_machine.proofs.Moving.{is_free}

one_in_range : (p : ℕ → Bool) (first n : ℕ) → list_any p (range_with_len first n) ≡ true → (k : ℕ) × (first ≤ k) × (k < first + n) × (p k ≡ true)
one_in_range p first zero any = absurd cc
one_in_range p first (suc n) any = by (p first) refl any (one_in_range p (first + 1) n)
  where
    by : (b : Bool) → p first ≡ b → (b || list_any p (range_with_len (first + 1) n)) ≡ true → (list_any p (range_with_len (first + 1) n) ≡ true → (k : ℕ) × (first + 1 ≤ k) × (k < first + 1 + n) × (p k ≡ true)) → (k : ℕ) × (first ≤ k) × (k < first + suc n) × (p k ≡ true)
    by true is h rest = (first, omega arith, omega arith, is)
    by false is h rest =
        let later = rest h in
        let low = later.1 in
        let high = later.2 in
        (later.0, omega arith, omega arith, later.3)

not_any : (block : ℕ) (pages : List ℕ) → list_all (λ page. not (eqb (page / 32) block)) pages ≡ true → list_any (λ q. eqb (q / 32) block) pages ≡ false
not_any block [] all = refl
not_any block (q ∷ qs) all =
    let both = and_parts _ _ all in
    by (eqb (q / 32) block) both.0 (not_any block qs both.1)
  where
    by : (b : Bool) → not b ≡ true → list_any (λ q. eqb (q / 32) block) qs ≡ false → (b || list_any (λ q. eqb (q / 32) block) qs) ≡ false
    by true h rest = absurd cc
    by false h rest = rest

one_free : (v : Values) (block : ℕ) → state_at v block ≡ Free → 1 ≤ free_count v
one_free v block free =
    let is = is_free v block free in
    let w : Bool → ℕ = λ b. cond b 1 0 in
    elim (cases_lt block (length v.free.items)) [
      | inl low ↦ let least = get_or-le-sum_by (λ (b : Bool). cond b 1 0) v.free.items block false low in let one = ap w is in omega arith
      | inr past ↦ absurd (let e : false ≡ true = sym (get_or_past v.free.items block false past) ∙ is in cc)
    ]

pub block_at_first : (v : Values) (visible : List Entry) → leaves_a_block (device_of v) visible ≡ true
    → ((block : ℕ) → IsValueBlock (device_of v) block → state_at v block ≡ cond (list_any (λ q. eqb (q / 32) block) (pages_named visible)) Closed Free) → HasBlock v
unfolding leaves_a_block
block_at_first v visible left states =
    let one = one_in_range (is_unnamed visible) (first_value_block_in (device_of v)) (value_blocks_in (device_of v)) left in
    let low = one.1 in
    let high = one.2 in
    let free = one_free v one.0 (states one.0 (record { first = low; last = omega arith }) ∙ ap (λ b. cond b Closed Free) (not_any one.0 (pages_named visible) one.3)) in
    omega arith

-- by whether one is being copied into
by_target : (old new : Bool) (room before now : ℕ) → new ≡ old → (room ≢ 0 → now ≡ before) → (room ≡ 0 → now + 1 ≡ before) → room + 32 * (before - cond old 0 1) ≢ 0 → 1 ≤ before + cond old 1 0 → 1 ≤ now + cond new 1 0
by_target true new room before now same goes begins some has = subst (λ (b : Bool). 1 ≤ now + cond b 1 0) (sym same) (omega arith)
by_target false new room before now same goes begins some has = subst (λ (b : Bool). 1 ≤ now + cond b 1 0) (sym same) (elim (cases_eq room 0) [
  | inl none ↦ let taken = begins none in omega arith
  | inr more ↦ let kept = goes more in omega arith
])

pub block_after_put : (old new : Values) (page : ℕ) → Puts old page new → free_room old ≢ 0 → HasBlock old → HasBlock new
block_after_put old new page puts some has =
    by_target (has_target old) (has_target new) (open_room old) (free_count old) (free_count new) puts.target.has (λ more. (puts.goes_on more).0.free) (λ none. (puts.begins none).0.free) some has

pub block_after_copy : (old new : Values) (answer : Option ℕ) → Copies old answer new → HasBlock new
block_after_copy old new answer copies = subst (λ (b : Bool). 1 ≤ free_count new + cond b 1 0) (sym copies.has) (omega arith)

pub block_after_clear : (old new : Values) (block : ℕ) → Clears old block new → HasBlock new
block_after_clear old new block clears = let more = clears.free in omega arith

pub block_after_mark : (old new : Values) → SamePlaces old new → HasBlock old → HasBlock new
block_after_mark old new same has = subst (λ n. 1 ≤ n + cond (has_target new) 1 0) (sym same.blocks.free) (subst (λ (b : Bool). 1 ≤ free_count old + cond b 1 0) (sym same.target.has) has)
