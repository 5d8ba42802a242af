-- A collection under way stands through what bears it.
use Rattle.std.proofs.Common.{◌≡◌, ◌∙◌, ◌⊎◌, inl, inr, ℕ, zero, suc, ◌+◌, ◌-◌, ◌*◌, ◌/◌, ◌%◌, ◌<◌, ◌≤◌, Bool, true, false, cond, eqb, ltb, get_or, length, Option, Some, None, refl, sym, ap, subst, arith}
use Rattle.std.specs.List.{range_with_len}
use Rattle.std.proofs.lemmas.Bool.{and_parts, eqb-true, or_right, cases_eq, cases_lt}
use Rattle.std.proofs.lemmas.List.Sums.{sum_by-cons}
use Rattle.kv_nand.specs.Flash.{Image}
use Rattle.kssd_layout.specs.Numbers.{first_value_block_in}
use Rattle.kssd_values.specs.Marks.{is_live}
use Rattle.kssd_values.specs.declared.mark.Mark.{Mark}
use Rattle.kssd_values.specs.declared.mark.Mark.TheVariants.{Pending, Visible, Dead}
use Rattle.kssd_values.specs.declared.filling.Filling.{Filling}
use Rattle.kssd_values.specs.declared.values.Values.{Values}
use Rattle.kssd_values.specs.Places.{IsValueBlock, is_below_in}
use Rattle.kssd_values.specs.Blocks.{BlockState, Free, Open, Closed, Target, device_of, mark_at, is_live_at, state_at, open_room, is_target_page}
use Rattle.kssd_values.specs.Pages.{key_in, size_in, KeepsPages, LiveStand}
use Rattle.kssd_values.specs.Changes.{SamePlaces, Puts, close_open}
use Rattle.kssd_values.proofs.Standing.{not_erased}
use Rattle.kssd_reclaim.specs.declared.copies.CopyOf.{CopyOf}
use Rattle.kssd_reclaim.specs.declared.reclaim.Reclaim.{Reclaim}
use Rattle.kssd_reclaim.specs.Reclaim.{block_of, next_of, copies_of, IsCopy}
use Rattle.kssd_machine.specs.Collecting.{live_from}
use Rattle.kssd_mounted.specs.Collections.{IsUnderWay, CollectsIn, BearsCollection}

-- ---- the collection

first_live : (v : Values) (first n : ℕ) → live_from v first (suc n) ≡ cond (is_live_at v first) 1 0 + live_from v (first + 1) n
first_live v first n = sum_by-cons (λ page. cond (is_live_at v page) 1 0) first (range_with_len (first + 1) n)

-- of these pages fewer are live where each that is was before
fewer_live : (v w : Values) (first n : ℕ) → ((page : ℕ) → first ≤ page → page < first + n → is_live_at w page ≡ true → is_live_at v page ≡ true) → live_from w first n ≤ live_from v first n
fewer_live v w first zero less = omega arith
fewer_live v w first (suc n) less =
    let rest = fewer_live v w (first + 1) n (λ page low high. less page (omega arith) (omega arith)) in
    let here = by (is_live_at w first) (is_live_at v first) (less first (omega arith) (omega arith)) in
    let a = first_live v first n in
    let b = first_live w first n in
    omega arith
  where
    by : (b c : Bool) → (b ≡ true → c ≡ true) → cond b 1 0 ≤ cond c 1 0
    by true true h = omega arith
    by true false h = absurd (let e = h refl in cc)
    by false c h = omega arith

copy_stays : (v w : Values) (before after : Image) (c : CopyOf) → state_at v (c.source / 32) ≡ Closed → BearsCollection v w before after → IsCopy v before c → IsCopy w after c
copy_stays v w before after c closed bears copy = record {
  filled = bears.target.pages c.target ∙ copy.filled;
  page = λ is. bears.filled c.target copy.filled ∙ copy.page (bears.live c.source closed is) ∙ sym (bears.same c.source closed is);
  key = λ is. copy.key (bears.live c.source closed is) ∙ ap key_in (sym (bears.same c.source closed is));
  size = λ is. copy.size (bears.live c.source closed is) ∙ ap size_in (sym (bears.same c.source closed is));
}

still_dead : (m n : Mark) → (is_live n ≡ true → is_live m ≡ true) → m ≡ Dead → n ≡ Dead
still_dead m Pending less is = absurd (let e : true ≡ false = sym (less refl) ∙ ap is_live is in cc)
still_dead m Visible less is = absurd (let e : true ≡ false = sym (less refl) ∙ ap is_live is in cc)
still_dead m Dead less is = refl

in_block : (block next page : ℕ) → next ≤ 32 → 32 * block + next ≤ page → page < 32 * block + next + (32 - next) → page / 32 ≡ block
in_block block next page within low high = omega arith

under_way_stays : (r : Reclaim) (v w : Values) (before after : Image) → IsUnderWay r v before → BearsCollection v w before after → IsUnderWay r w after
under_way_stays r v w before after h bears = record {
  closed = record { value = subst (λ n. IsValueBlock n (block_of r)) (sym bears.device) h.closed.value; closed = bears.closed (block_of r) h.closed.closed };
  collects = record {
    each = λ i d low. copy_stays v w before after (get_or (copies_of r) i d) (ap (state_at v) (r.sound.block_is i d low) ∙ h.closed.closed) bears (h.collects.each i d low);
    complete = λ page here below live. h.collects.complete page here below (bears.live page (ap (state_at v) here ∙ h.closed.closed) live);
  };
  targets = record {
    dead = λ page into. still_dead (mark_at v page) (mark_at w page) (bears.dead page into) (h.targets.dead page (bears.into (page / 32) into));
    rising = h.targets.rising;
  };
  few = record {
    fewer =
        let fewer = h.few.fewer in
        let less = fewer_live v w (32 * block_of r + next_of r) (32 - next_of r) (λ page low high. bears.live page (ap (state_at v) (in_block (block_of r) (next_of r) page r.sound.within low high) ∙ h.closed.closed)) in
        omega arith;
    used = bears.target.next ∙ h.few.used;
  };
}

pub collection_stays : (c : Option Reclaim) (v w : Values) (before after : Image) → CollectsIn c v before → BearsCollection v w before after → CollectsIn c w after
collection_stays None v w before after h bears = bears.target.has ∙ h
collection_stays (Some r) v w before after h bears = under_way_stays r v w before after h bears

-- ---- what bears it

-- one after the other
pub bears_then : (u v w : Values) (a b c : Image) → BearsCollection u v a b → BearsCollection v w b c → BearsCollection u w a c
bears_then u v w a b c first more = record {
  device = more.device ∙ first.device;
  target = record { has = more.target.has ∙ first.target.has; next = more.target.next ∙ first.target.next; pages = λ q. more.target.pages q ∙ first.target.pages q };
  closed = λ block is. more.closed block (first.closed block is);
  into = λ block is. first.into block (more.into block is);
  live = λ page closed is. first.live page closed (more.live page (first.closed (page / 32) closed) is);
  dead = λ page into is. first.dead page (more.into (page / 32) into) (more.dead page into is);
  same = λ page closed is. more.same page (first.closed (page / 32) closed) is ∙ first.same page closed (more.live page (first.closed (page / 32) closed) is);
  filled = λ page is. more.filled page (first.target.pages page ∙ is) ∙ first.filled page is;
}

-- marks, with which no page of a closed block or of the one copied into comes to life
pub bears_marks : (v w : Values) (image : Image) → SamePlaces v w → ((page : ℕ) → (state_at v (page / 32) ≡ Closed) ⊎ (state_at v (page / 32) ≡ Target) → is_live_at w page ≡ true → is_live_at v page ≡ true) → BearsCollection v w image image
bears_marks v w image places less = record {
  device = places.device;
  target = places.target;
  closed = λ block is. places.blocks.states block ∙ is;
  into = λ block is. sym (places.blocks.states block) ∙ is;
  live = λ page closed is. less page (inl closed) is;
  dead = λ page into is. less page (inr (sym (places.blocks.states (page / 32)) ∙ into)) is;
  same = λ page closed is. refl;
  filled = λ page is. refl;
}

-- a page of the block copied into lies in a block of values
target_is_value : (v : Values) (page : ℕ) → is_target_page v page ≡ true → IsValueBlock (device_of v) (page / 32)
target_is_value v page is = by v.target refl is
  where
    by : (o : Option Filling) → v.target ≡ o → is_below_in o page ≡ true → IsValueBlock (device_of v) (page / 32)
    by None e h = absurd cc
    by (Some f) e h =
        let both = and_parts (eqb (page / 32) f.block) (ltb (page % 32) f.next) h in
        subst (IsValueBlock (device_of v)) (sym (eqb-true (page / 32) f.block both.0)) (v.sound.target_is f e).value

-- and so does a live page
live_is_value : (v : Values) (page : ℕ) → is_live_at v page ≡ true → first_value_block_in (device_of v) ≤ page / 32
live_is_value v page live = elim (cases_lt (page / 32) (first_value_block_in (device_of v))) [
  | inl low ↦ absurd (let e : false ≡ true = sym (v.sound.outside page low) ∙ live in cc)
  | inr high ↦ omega arith
]

-- marks with which no page comes to life, and changes outside the blocks of values
pub bears_outside : (v w : Values) (before after : Image) → SamePlaces v w → ((page : ℕ) → is_live_at w page ≡ true → is_live_at v page ≡ true) → ((page : ℕ) → first_value_block_in (device_of v) ≤ page / 32 → after page ≡ before page) → BearsCollection v w before after
bears_outside v w before after places less same = record {
  device = places.device;
  target = places.target;
  closed = λ block is. places.blocks.states block ∙ is;
  into = λ block is. sym (places.blocks.states block) ∙ is;
  live = λ page closed is. less page is;
  dead = λ page into is. less page is;
  same = λ page closed is. same page (live_is_value v page (less page is));
  filled = λ page is. same page (target_is_value v page is).first;
}

-- a page that is put
was_target : (s : BlockState) → close_open s ≡ Target → s ≡ Target
was_target Free is = absurd cc
was_target Open is = absurd cc
was_target Closed is = absurd cc
was_target Target is = refl

states_put : (v w : Values) (page block : ℕ) → Puts v page w → (state_at v block ≡ Closed → state_at w block ≡ Closed) × (state_at w block ≡ Target → state_at v block ≡ Target)
states_put v w page block puts = elim (cases_eq (open_room v) 0) [
  | inl none ↦ let takes = (puts.begins none).0 in elim (cases_eq block (page / 32)) [
    | inl here ↦ (
      (λ is. absurd (let e : Free ≡ Closed = sym takes.was ∙ ap (state_at v) (sym here) ∙ is in cc)),
      (λ is. absurd (let e : Open ≡ Target = sym takes.now ∙ ap (state_at w) (sym here) ∙ is in cc)),
    )
    | inr apart ↦ ((λ is. takes.others block apart ∙ ap close_open is), (λ is. was_target (state_at v block) (sym (takes.others block apart) ∙ is)))
  ]
  | inr some ↦ let same = (puts.goes_on some).0.states block in ((λ is. same ∙ is), (λ is. sym same ∙ is))
]

pub bears_put : (v w : Values) (page : ℕ) (before after : Image) → Puts v page w → KeepsPages v before after → LiveStand v before → BearsCollection v w before after
bears_put v w page before after puts keeps stand =
    let was : (q : ℕ) → is_live_at w q ≡ true → is_live_at v q ≡ true = λ q is. sym (ap is_live (puts.marks q)) ∙ is in
    record {
      device = puts.device;
      target = puts.target;
      closed = λ block is. (states_put v w page block puts).0 is;
      into = λ block is. (states_put v w page block puts).1 is;
      live = λ q closed is. was q is;
      dead = λ q into is. was q is;
      same = λ q closed is. keeps.live q (was q is) (not_erased (before q) (stand.each q (was q is)));
      filled = λ q is. keeps.filled q (or_right (is_below_in v.opened q) (is_target_page v q) is);
    }

-- a page that is live after marks that are Dead was live before
pub live_before : (b : Bool) (m : Mark) → is_live (cond b Dead m) ≡ true → is_live m ≡ true
live_before true m is = absurd cc
live_before false m is = is
