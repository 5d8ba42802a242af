-- One step of copying after another.
use Rattle.std.proofs.Common.{◌≡◌, ◌≢◌, ◌∙◌, ◌⊎◌, inl, inr, ℕ, ◌+◌, ◌-◌, ◌*◌, ◌/◌, ◌%◌, ◌<◌, ◌≤◌, Bool, true, false, cond, ◌||◌, eqb, ltb, List, [], length, get_or, Option, Some, None, is_some, refl, sym, ap, subst, arith}
use Rattle.std.proofs.lemmas.Bool.{and_parts, and_from, eqb-true, eq-eqb, or_left, or_right, cases_Bool}
use Rattle.kv_nand.specs.Flash.{Flash, Image, IsSound}
use Rattle.kv_nand.specs.Working.{Works, ops_more}
use Rattle.kv_nand.proofs.Chaining.{works_blocks, works_then_works, works_within, works_still, works_no_ops, ops_then_ops}
use Rattle.kssd_values.specs.Marks.{is_live}
use Rattle.kssd_values.specs.declared.filling.Filling.{Filling}
use Rattle.kssd_values.specs.declared.values.Values.{Values}
use Rattle.kssd_values.specs.Places.{IsValueBlock, is_in, next_in, is_below_in}
use Rattle.kssd_values.specs.Blocks.{Free, Open, Closed, Target, device_of, is_live_at, state_at, has_target, free_count, open_next, is_target_page, is_filled, IsClosed, IsVictim}
use Rattle.kssd_values.specs.Pages.{is_value, Fills, KeepsPages, StandsIn}
use Rattle.kssd_values.specs.Changes.{SameMarks, Copies}
use Rattle.kssd_values.proofs.Standing.{live_stays}
use Rattle.kssd_reclaim.specs.declared.copies.CopyOf.{CopyOf}
use Rattle.kssd_reclaim.specs.declared.reclaim.Reclaim.{Reclaim}
use Rattle.kssd_reclaim.specs.Reclaim.{block_of, next_of, copies_of, AllCopied, Collects}
use Rattle.kssd_reclaim.specs.Steps.{Steps}
use Rattle.kssd_machine.specs.Marked.{HasBlock}
use Rattle.kssd_machine.proofs.Remaining.{block_after_copy}
use Rattle.kssd_machine.proofs.Moving.{targets_kept}
use Rattle.kssd_machine.proofs.Copying.{few_first, few_after}
use Rattle.kssd_collect.specs.Copied.{HasCopies, copies_left, IsCopying}

-- ---- what a step does to the blocks

-- the blocks after a step: none that was closed or filled is used for something else
record IsStep (v w : Values) : Type 0 where
  pub device : device_of w ≡ device_of v
  pub marks : SameMarks v w
  pub closed : (block : ℕ) → state_at v block ≡ Closed → state_at w block ≡ Closed
  pub filled : (q : ℕ) → is_filled v q ≡ true → is_filled w q ≡ true
  pub block : HasBlock v → HasBlock w

-- a page of the open block
below_open : (v : Values) (q : ℕ) → is_below_in v.opened q ≡ true → (state_at v (q / 32) ≡ Open) × (q % 32 < open_next v)
below_open v q = by v.opened refl
  where
    by : (o : Option Filling) → v.opened ≡ o → is_below_in o q ≡ true → (state_at v (q / 32) ≡ Open) × (q % 32 < next_in v.opened)
    by None e h = absurd cc
    by (Some f) e h =
        let both = and_parts (eqb (q / 32) f.block) (ltb (q % 32) f.next) h in
        let here : is_in v.opened (q / 32) ≡ true = ap (λ (o : Option Filling). is_in o (q / 32)) e ∙ eq-eqb f.block (q / 32) (sym (eqb-true (q / 32) f.block both.0)) in (
          ap (λ b. cond b Open (cond (is_in v.target (q / 32)) Target (cond (get_or v.free.items (q / 32) false) Free Closed))) here,
          subst (λ (o : Option Filling). q % 32 < next_in o) (sym e) (Rattle.std.proofs.lemmas.Bool.ltb-true (q % 32) f.next both.1),
        )

open_below : (v : Values) (q : ℕ) → state_at v (q / 32) ≡ Open → q % 32 < open_next v → is_below_in v.opened q ≡ true
open_below v q state low = by v.opened refl low
  where
    is_open : (o t f : Bool) → cond o Open (cond t Target (cond f Free Closed)) ≡ Open → o ≡ true
    is_open true t f h = refl
    is_open false true f h = absurd cc
    is_open false false true h = absurd cc
    is_open false false false h = absurd cc

    by : (o : Option Filling) → v.opened ≡ o → q % 32 < next_in o → is_below_in o q ≡ true
    by None e less = absurd (omega arith)
    by (Some f) e less =
        let here : is_in (Some f) (q / 32) ≡ true = ap (λ (o : Option Filling). is_in o (q / 32)) (sym e) ∙ is_open (is_in v.opened (q / 32)) (is_in v.target (q / 32)) (get_or v.free.items (q / 32) false) state in
        and_from (eqb (q / 32) f.block) (ltb (q % 32) f.next) (eq-eqb (q / 32) f.block (sym (eqb-true f.block (q / 32) here))) (Rattle.std.proofs.lemmas.Bool.lt-ltb (q % 32) f.next less)

-- what was filled is, where the open block is as it was
filled_by : (v w : Values) → ((block : ℕ) → state_at v block ≡ Open → state_at w block ≡ Open) → open_next w ≡ open_next v → ((q : ℕ) → is_target_page v q ≡ true → is_target_page w q ≡ true) → (q : ℕ) → is_filled v q ≡ true → is_filled w q ≡ true
filled_by v w opened next target q h = elim (cases_Bool (is_below_in v.opened q)) [
  | inl here ↦ let was = below_open v q here in or_left (is_below_in w.opened q) (is_target_page w q) (open_below w q (opened (q / 32) was.0) (subst (λ n. q % 32 < n) (sym next) was.1))
  | inr away ↦ or_right (is_below_in w.opened q) (is_target_page w q) (target q (sym (ap (λ b. b || is_target_page v q) away) ∙ h))
]

no_target : (v : Values) (q : ℕ) → has_target v ≡ false → is_target_page v q ≡ true → ⊥
no_target v q = by v.target
  where
    by : (o : Option Filling) → is_some o ≡ false → is_below_in o q ≡ true → ⊥
    by None h is = cc
    by (Some f) h is = cc

copy_step : (v w : Values) (answer : Option ℕ) → Copies v answer w → IsStep v w
copy_step v w answer copies = by answer refl
  where
    by : (a : Option ℕ) → answer ≡ a → IsStep v w
    by None e =
        let begins = copies.begins e in
        let takes = begins.2.2 in
        let other : (block : ℕ) → state_at v block ≢ Free → state_at w block ≡ state_at v block = λ block used. takes.others block (λ same. used (ap (state_at v) same ∙ takes.was)) in
        record {
          device = copies.device;
          marks = copies.marks;
          closed = λ block closed. other block (λ free. let t : Closed ≡ Free = sym closed ∙ free in cc) ∙ closed;
          filled = filled_by v w (λ block is. other block (λ free. let t : Open ≡ Free = sym is ∙ free in cc) ∙ is) copies.opened.next (λ q is. absurd (no_target v q begins.0 is));
          block = λ has. block_after_copy v w answer copies;
        }
    by (Some page) e =
        let on = copies.goes_on page e in
        record {
          device = copies.device;
          marks = copies.marks;
          closed = λ block closed. on.blocks.states block ∙ closed;
          filled = filled_by v w (λ block is. on.blocks.states block ∙ is) copies.opened.next on.pages;
          block = λ has. block_after_copy v w answer copies;
        }

still : (v : Values) → IsStep v v
still v = record { device = refl; marks = λ q. refl; closed = λ block is. is; filled = λ q is. is; block = λ has. has }

step_done : (old new : Reclaim) (v w : Values) (before after : Flash) → Steps old v before new w after → IsStep v w × (block_of new ≡ block_of old)
step_done old new v w before after steps = elim steps [
  | inl idle ↦ (subst (λ (x : Values). IsStep v x) (sym idle.values) (still v), idle.waits.block)
  | inr more ↦ elim more [
    | inl begins ↦ (copy_step v w None begins.values, begins.waits.block)
    | inr next ↦ (copy_step v w (Some next.copy.target) next.values, next.block)
  ]
]

-- ---- how many steps are left

fewer_left : (next old_next : ℕ) (had has : Bool) → (next ≤ 32) × (old_next ≤ 32) → ((next ≡ old_next) × (had ≡ false) × (has ≡ true)) ⊎ ((old_next < next) × (had ≡ true) × (has ≡ true))
    → (32 - next) + cond has 0 1 + 1 ≤ (32 - old_next) + cond had 0 1
fewer_left next old_next had has within which = elim which [
  | inl begins ↦ rw (begins.1, begins.2) (let e = begins.0 in omega arith)
  | inr on ↦ rw (on.1, on.2) (let e = on.0 in omega (arith, within.0))
]

-- a step where not all is copied is one operation, after which fewer are left and a block is being copied into
record IsMore (old new : Reclaim) (v w : Values) (before after : Flash) : Type 0 where
  ops : after.ops ≡ ops_more before 1
  less : copies_left new w + 1 ≤ copies_left old v
  has : has_target w ≡ true

one_more : (old new : Reclaim) (v w : Values) (before after : Flash) → (AllCopied old v → ⊥) → Steps old v before new w after → IsMore old new v w before after
one_more old new v w before after some steps = elim steps [
  | inl idle ↦ absurd (some idle.all)
  | inr more ↦ elim more [
    | inl begins ↦ record {
      ops = begins.ops;
      less = fewer_left (next_of new) (next_of old) (has_target v) (has_target w) (new.sound.within, old.sound.within) (inl (begins.waits.next, (begins.values.begins refl).0, begins.values.has));
      has = begins.values.has;
    }
    | inr next ↦ record {
      ops = next.ops;
      less = fewer_left (next_of new) (next_of old) (has_target v) (has_target w) (new.sound.within, old.sound.within)
          (inr (let from = next.source.ahead.from in let e = next.next in (omega arith, (next.values.goes_on next.copy.target refl).had, next.values.has)));
      has = next.values.has;
    }
  ]
]

pub left_most : (r : Reclaim) (v : Values) → copies_left r v ≤ 33
left_most r v = by (has_target v)
  where
    by : (b : Bool) → (32 - next_of r) + cond b 0 1 ≤ 33
    by true = omega arith
    by false = omega arith

-- ---- the copying

-- every page that is live stands as a value
pub pages_stand : (v : Values) (flash : Flash) → StandsIn v flash → (block page : ℕ) → page / 32 ≡ block → is_live_at v page ≡ true → is_value (flash.image page) ≡ true
pages_stand v flash h block page here live = h.live.each page live

-- there is a block to copy into
pub has_block : (v : Values) → HasBlock v → (free_count v ≢ 0) ⊎ (has_target v ≡ true)
has_block v has = by (has_target v) has
  where
    by : (b : Bool) → 1 ≤ free_count v + cond b 1 0 → (free_count v ≢ 0) ⊎ (b ≡ true)
    by true h = inr refl
    by false h = inl (omega arith)

none_copied_into : (v : Values) (block : ℕ) → has_target v ≡ false → state_at v block ≡ Target → ⊥
none_copied_into v block none state = by v.target none (is_target (is_in v.opened block) (is_in v.target block) (get_or v.free.items block false) state)
  where
    is_target : (o t f : Bool) → cond o Open (cond t Target (cond f Free Closed)) ≡ Target → t ≡ true
    is_target true t f h = absurd cc
    is_target false true f h = refl
    is_target false false true h = absurd cc
    is_target false false false h = absurd cc

    by : (o : Option Filling) → is_some o ≡ false → is_in o block ≡ true → ⊥
    by None h is = cc
    by (Some f) h is = cc

-- a collection that begins with a victim has no copies
pub first_copies : (r : Reclaim) (v : Values) (image : Image) → IsVictim v (block_of r) → has_target v ≡ false → HasBlock v → next_of r ≡ 0 → copies_of r ≡ [] → Collects r v image → HasCopies r v image
first_copies r v image victim none has first empty collects = record {
  collects = collects;
  targets = record {
    dead = λ page state. absurd (none_copied_into v (page / 32) none state);
    rising = λ i j d less low. let long = ap (λ (cs : List CopyOf). length cs) empty in absurd (omega arith);
  };
  few = few_first r v (block_of r) victim none refl first empty;
  closed = victim.closed;
  block = has;
}

pub begun : (r : Reclaim) (v : Values) (flash : Flash) → IsSound flash → HasCopies r v flash.image → StandsIn v flash → IsCopying r v flash 0 r v flash
begun r v flash sound copies stands = record {
  copies = copies;
  stands = stands;
  device = refl;
  marks = λ q. refl;
  filled = λ q h. h;
  keeps = record { outside = λ q h. refl; live = λ q h e. refl; filled = λ q h. refl };
  works = works_still flash;
  exact = works_no_ops flash flash 0 sound (works_still flash);
  fewer = omega arith;
  none = λ is. refl;
}

-- what was kept until now is kept
pub keeps_on : (v0 v : Values) (a b c : Image) → device_of v ≡ device_of v0 → SameMarks v0 v → ((q : ℕ) → is_filled v0 q ≡ true → is_filled v q ≡ true) → KeepsPages v0 a b → KeepsPages v b c → KeepsPages v0 a c
keeps_on v0 v a b c device marks filled first later = record {
  outside = λ q none. later.outside q (λ is. none (subst (λ (n : ℕ). IsValueBlock n (q / 32)) device is)) ∙ first.outside q none;
  live = λ q is used. let same = first.live q is used in later.live q (ap is_live (marks q) ∙ is) (λ e. used (sym same ∙ e)) ∙ same;
  filled = λ q is. later.filled q (filled q is) ∙ first.filled q is;
}

pub copying_on : (first : Reclaim) (v0 : Values) (f0 : Flash) (done : ℕ) (old new : Reclaim) (v w : Values) (before after : Flash) → IsCopying first v0 f0 done old v before → (AllCopied old v → ⊥) → Steps old v before new w after → Collects new w after.image → Fills w after.image
    → KeepsPages v before.image after.image → Works before after 1 2 → IsCopying first v0 f0 (done + 1) new w after
copying_on first v0 f0 done old new v w before after h some steps collects fills keeps works =
    let both = step_done old new v w before after steps in
    let step = both.0 in
    let more = one_more old new v w before after some steps in
    record {
      copies = record {
        collects = collects;
        targets = targets_kept old new v w before after steps h.copies.collects h.copies.targets;
        few = few_after old new v w before after h.copies.closed.value steps h.copies.few;
        closed = subst (IsClosed w) (sym both.1) (record { value = subst (λ (n : ℕ). IsValueBlock n (block_of old)) (sym step.device) h.copies.closed.value; closed = step.closed (block_of old) h.copies.closed.closed });
        block = step.block h.copies.block;
      };
      stands = record {
        device = step.device ∙ h.stands.device ∙ sym (works_blocks before after 1 2 works);
        fills = fills;
        live = live_stays v w before.image after.image h.stands.live keeps (λ q is. sym (ap is_live (step.marks q)) ∙ is);
      };
      device = step.device ∙ h.device;
      marks = λ q. step.marks q ∙ h.marks q;
      filled = λ q is. step.filled q (h.filled q is);
      keeps = keeps_on v0 v f0.image before.image after.image h.device h.marks h.filled h.keeps keeps;
      works = works_within f0 after _ _ _ _ (works_then_works f0 before after done (2 * done) 1 2 h.works works) (omega arith) (omega arith);
      exact = ops_then_ops f0 before after done 1 h.exact more.ops;
      fewer = let less = more.less in let few = h.fewer in omega arith;
      none = λ is. absurd (let e : true ≡ false = sym more.has ∙ is in cc);
    }
