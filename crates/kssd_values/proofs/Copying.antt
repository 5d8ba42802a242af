-- A page is copied into the block copied into.
use Rattle.std.proofs.Common.{◌≡◌, ◌∙◌, ℕ, ◌+◌, ◌*◌, ◌/◌, ◌%◌, ◌<◌, Bool, true, false, List, get_or, Some, sym, ap, subst, arith, inl, inr}
use Rattle.std.specs.Prelude.{eqb, is_some, count_by, nat_lt}
use Rattle.std.proofs.lemmas.Bool.{cases_lt, false≢true, or_from, and_from, and_parts, eq-eqb, eqb-true, lt-ltb, ltb-true}
use Rattle.std.proofs.lemmas.List.{get_or_past}
use Rattle.kv_nand.specs.Flash.{Image, PageState, Erased, Whole, with_page, LeftByProgram}
use Rattle.kssd_image.specs.ValuePages.{value_page, first_bytes}
use Rattle.kssd_image.proofs.ValuePages.{holds_from}
use Rattle.kssd_values.specs.declared.filling.Filling.{Filling}
use Rattle.kssd_values.specs.declared.mark.Mark.{Mark}
use Rattle.kssd_values.specs.declared.mark.Mark.TheVariants.{Dead}
use Rattle.kssd_values.specs.declared.values.Values.{Values}
use Rattle.kssd_values.specs.Marks.{is_live}
use Rattle.kssd_values.specs.Places.{IsValueBlock, AreValues, is_in, next_in, room_in, is_below_in}
use Rattle.kssd_values.specs.Blocks.{device_of, state_at, is_live_at}
use Rattle.kssd_values.specs.Pages.{FillsBlock, FillsIn, Fills, KeepsPages, is_value, key_in, size_in}
use Rattle.kssd_values.specs.Changes.{Copies, CopiesPage, GoesOn}
use Rattle.kssd_values.proofs.Sound.{target_sound}
use Rattle.kssd_values.proofs.States.{by_tests, is_in-same, target_alone}
use Rattle.kssd_values.proofs.Filled.{block_of, fills_more, in_apart, not_below, keeps_program, with_page-same}
use Rattle.kssd_values.proofs.PageMaking.{kind_there}
use Rattle.kssd_values.proofs.Putting.{next_not_below}

-- a live page is one of the device
pub live_within : (v : Values) (page : ℕ) → is_live_at v page ≡ true → page < 32 * device_of v
live_within v page h = elim (cases_lt page (32 * device_of v)) [
  | inl low ↦ low
  | inr past ↦ absurd (false≢true (sym (ap is_live (get_or_past v.marks.items page Dead (omega (arith, v.sound.pages)))) ∙ h))
]

-- pages below the next one
below_is : (f : Filling) (q : ℕ) → q / 32 ≡ f.block → q % 32 < f.next → is_below_in (Some f) q ≡ true
below_is f q e lt = and_from (eqb (q / 32) f.block) (nat_lt (q % 32) f.next) (eq-eqb (q / 32) f.block e) (lt-ltb (q % 32) f.next lt)

below_parts : (f : Filling) (q : ℕ) → is_below_in (Some f) q ≡ true → (q / 32 ≡ f.block) × (q % 32 < f.next)
below_parts f q h =
    let p = and_parts (eqb (q / 32) f.block) (nat_lt (q % 32) f.next) h in
    (eqb-true (q / 32) f.block p.0, ltb-true (q % 32) f.next p.1)

-- a value's page has the kind of one
pub kind_is : (state : PageState) (bytes : List ℕ) → state ≡ Whole bytes → is_value state ≡ true → get_or bytes 4096 0 ≡ 4
kind_is state bytes e h =
    let holds = (holds_from (key_in state) (size_in state) state h).0 in
    let same : bytes ≡ value_page (key_in state) (first_bytes (size_in state) state) = let q : Whole bytes ≡ Whole (value_page (key_in state) (first_bytes (size_in state) state)) = sym e ∙ holds.page in cc in
    ap (λ (b : List ℕ). get_or b 4096 0) same ∙ kind_there (key_in state) (first_bytes (size_in state) state) holds.fits

module _ (old : Values) (f : Filling) (was : old.target ≡ Some f) (room : f.next < 32) where
  here : is_in old.target f.block ≡ true
  here = ap (λ o. is_in o f.block) was ∙ is_in-same f

  alone : (is_in old.opened f.block ≡ false) × (get_or old.free.items f.block false ≡ false)
  alone = target_alone old.layout.blocks old.marks.items old.free.items old.opened old.target old.sound f.block here

  pub target_block : f.block < device_of old
  target_block = (old.sound.target_is f was).value.last

  target_value : IsValueBlock (device_of old) ((32 * f.block + f.next) / 32)
  target_value = subst (IsValueBlock (device_of old)) (sym (block_of f.block f.next room).0) (old.sound.target_is f was).value

  target_erased : (image : Image) → Fills old image → image (32 * f.block + f.next) ≡ Erased
  target_erased image fills =
      let at = block_of f.block f.next room in
      let block = subst (λ o. FillsIn o image) was fills.target in
      block.behind (32 * f.block + f.next) at.0 (omega (arith, at.1))

  pub target_fills : (image : Image) → Fills old image → FillsBlock f image
  target_fills image fills = subst (λ o. FillsIn o image) was fills.target

  pub keeps_copy : (before after : Image) (bytes : List ℕ) → Fills old before → LeftByProgram before (32 * f.block + f.next) bytes after → KeepsPages old before after
  keeps_copy before after bytes fills left =
      let at = block_of f.block f.next room in
      keeps_program old before after (32 * f.block + f.next) bytes left target_value (target_erased before fills)
      (or_from (is_below_in old.opened (32 * f.block + f.next)) (is_below_in old.target (32 * f.block + f.next))
      (not_below old.opened (32 * f.block + f.next) f.block at.0 alone.0)
      (next_not_below f old.target was room))

  pub sound_copy : (g : Filling) → g ≡ record { block = f.block; next = f.next + 1 } → AreValues old.layout.blocks old.marks.items old.free.items old.opened (Some g)
  sound_copy g e =
      let is = old.sound.target_is f was in
      let block : g.block ≡ f.block = ap (λ (x : Filling). x.block) e in
      target_sound old.layout.blocks old.marks.items old.free.items old.opened old.target old.sound g
      (record {
        value = subst (IsValueBlock old.layout.blocks) (sym block) is.value;
        taken = ap (λ k. get_or old.free.items k false) block ∙ is.taken;
        within = let next = ap (λ (x : Filling). x.next) e in omega (arith, next, room);
      })
      (λ o open_ same. old.sound.apart o f open_ was (same ∙ block))

  pub copies : (new : Values) (g : Filling) (at : ℕ) → device_of new ≡ device_of old → new.marks.items ≡ old.marks.items → new.free.items ≡ old.free.items → new.opened ≡ old.opened → new.target ≡ Some g → g ≡ record { block = f.block; next = f.next + 1 } → at ≡ 32 * f.block + f.next → Copies old (Some at) new
  copies new g at device marks free opened target more is =
      let place = block_of f.block f.next room in
      let block : at / 32 ≡ f.block = ap (λ n. n / 32) is ∙ place.0 in
      let same : g.block ≡ f.block = ap (λ (x : Filling). x.block) more in
      record {
        device = device;
        marks = λ q. ap (λ (m : List Mark). get_or m q Dead) marks;
        opened = record { room = ap room_in opened; next = ap next_in opened };
        has = ap is_some target;
        begins = λ e. absurd cc;
        goes_on = λ page e. let same_page : at ≡ page = cc in subst (λ p. GoesOn old p new) same_page (record {
          had = ap is_some was;
          value = subst (λ n. IsValueBlock (device_of old) (n / 32)) (sym is) target_value;
          here = ap (state_at old) block ∙ (λ i. by_tests (alone.0 i) (here i) (alone.1 i));
          place = ap (λ n. n % 32) is ∙ place.1 ∙ sym (ap next_in was);
          next = ap next_in target ∙ ap (λ (x : Filling). x.next) more ∙ sym (ap (λ o. next_in o + 1) was);
          blocks = record {
            states = λ b. (λ i. by_tests (is_in (opened i) b) (is_in (target i) b) (get_or (free i) b false))
                ∙ ap (λ k. by_tests (is_in old.opened b) (eqb k b) (get_or old.free.items b false)) same
                ∙ sym (ap (λ o. by_tests (is_in old.opened b) (is_in o b) (get_or old.free.items b false)) was);
            free = ap (λ (fr : List Bool). count_by (λ x. x) fr) free;
          };
          page_is = ap (λ o. is_below_in o at) target ∙ below_is g at (block ∙ sym same) (omega (arith, place.1, ap (λ n. n % 32) is, ap (λ (x : Filling). x.next) more));
          pages = λ q h.
              let p = below_parts f q (sym (ap (λ o. is_below_in o q) was) ∙ h) in
              ap (λ o. is_below_in o q) target ∙ below_is g q (p.0 ∙ sym same) (omega (arith, p.1, ap (λ (x : Filling). x.next) more));
        });
      }

  pub copies_page : (before after : Image) (source at : ℕ) (bytes : List ℕ) → Fills old before → at ≡ 32 * f.block + f.next → before source ≡ Whole bytes → after ≡ with_page before (32 * f.block + f.next) (Whole bytes) → CopiesPage before source at after
  copies_page before after source at bytes fills is whole e = record {
    was = ap before is ∙ target_erased before fills;
    now = (λ i. e i at) ∙ with_page-same before (32 * f.block + f.next) at (Whole bytes) is ∙ sym whole;
  }

  pub fills_copy : (before after : Image) (bytes : List ℕ) (g : Filling) → Fills old before → g ≡ record { block = f.block; next = f.next + 1 } → after ≡ with_page before (32 * f.block + f.next) (Whole bytes) → FillsIn old.opened after × FillsIn (Some g) after
  fills_copy before after bytes g fills e is = (
    subst (FillsIn old.opened) (sym is) (in_apart old.opened before (32 * f.block + f.next) (Whole bytes) (ap (is_in old.opened) (block_of f.block f.next room).0 ∙ alone.0) fills.opened),
    subst (FillsIn (Some g)) (sym is) (fills_more f g before bytes (target_fills before fills) room e),
  )
