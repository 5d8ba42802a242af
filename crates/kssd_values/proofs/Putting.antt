-- A page is put into the open block.
use Rattle.std.proofs.Common.{◌≡◌, ◌≢◌, ◌∙◌, ℕ, ◌+◌, ◌-◌, ◌*◌, ◌/◌, ◌%◌, ◌<◌, ◌≤◌, ◌⊎◌, length, Bool, true, false, List, get_or, Option, Some, refl, sym, ap, subst, arith, inl, inr}
use Rattle.std.specs.Prelude.{eqb, nat_lt, count_by, is_some}
use Rattle.std.proofs.lemmas.Bool.{cases_eq, eq-eqb, and_right, le-ltb, or_from}
use Rattle.kv_nand.specs.Flash.{Image, Erased, Whole, with_page, LeftByProgram}
use Rattle.kssd_image.specs.ValuePages.{value_page, HoldsValue}
use Rattle.kssd_values.specs.declared.filling.Filling.{Filling}
use Rattle.kssd_values.specs.declared.mark.Mark.{Mark}
use Rattle.kssd_values.specs.declared.mark.Mark.TheVariants.{Dead}
use Rattle.kssd_values.specs.declared.values.Values.{Values}
use Rattle.kssd_values.specs.Places.{IsValueBlock, AreValues, is_in, next_in, room_in, is_below_in}
use Rattle.kssd_values.specs.Blocks.{Open, device_of, state_at, open_next, open_room, is_filled}
use Rattle.kssd_values.specs.Pages.{FillsIn, Fills, KeepsPages}
use Rattle.kssd_values.specs.Changes.{Opens, Puts, TakesBlock, SameBlocks, close_open}
use Rattle.kssd_values.proofs.Sound.{count_taken, opened_sound}
use Rattle.kssd_values.proofs.States.{by_tests, is_in-same, open_alone, free_alone, free_state, begins_open}
use Rattle.kssd_values.proofs.Filled.{block_of, fills_more, in_apart, not_below, not_filled, keeps_program, keeps_then, with_page-same}

-- the next page of a block isn't below the next one
pub next_not_below : (f : Filling) (o : Option Filling) → o ≡ Some f → f.next < 32 → is_below_in o (32 * f.block + f.next) ≡ false
next_not_below f o e room =
    let at = block_of f.block f.next room in
    ap (λ x. is_below_in x (32 * f.block + f.next)) e
    ∙ and_right (eqb ((32 * f.block + f.next) / 32) f.block) (nat_lt ((32 * f.block + f.next) % 32) f.next) (le-ltb ((32 * f.block + f.next) % 32) f.next (omega (arith, at.1)))

-- what was known of the block before it was the open one
in_other : (v : Values) (f : Filling) → v.opened ≡ Some f → is_in v.target f.block ≡ false
in_other v f e =
    (open_alone v.layout.blocks v.marks.items v.free.items v.opened v.target v.sound f.block (ap (λ o. is_in o f.block) e ∙ is_in-same f)).0

module _ (old mid : Values) (f : Filling) (h : Opens old f mid) where
  pub page_value : IsValueBlock (device_of old) ((32 * f.block + f.next) / 32)
  page_value =
      let at = block_of f.block f.next h.room in
      subst (λ n. IsValueBlock (device_of old) n) (sym at.0) (subst (λ d. IsValueBlock d f.block) h.device (mid.sound.opened_is f h.opened).value)

  pub was_erased : (image : Image) → Fills mid image → image (32 * f.block + f.next) ≡ Erased
  was_erased image fills =
      let at = block_of f.block f.next h.room in
      let here = subst (λ o. FillsIn o image) h.opened fills.opened in
      here.behind (32 * f.block + f.next) at.0 (omega (arith, at.1))

  pub not_target : is_in mid.target f.block ≡ false
  not_target = in_other mid f h.opened

  by_room : (n : ℕ) → open_room old ≡ n → (n ≡ 0) ⊎ (n ≡ 0 → ⊥) → is_filled old (32 * f.block + f.next) ≡ false
  by_room n e (inl none) =
      let at = block_of f.block f.next h.room in
      let alone = free_alone old.layout.blocks old.marks.items old.free.items old.opened old.target old.sound f.block (h.taken (e ∙ none)).1 in
      not_filled old (32 * f.block + f.next) f.block at.0 alone.0 alone.1
  by_room n e (inr some) =
      let at = block_of f.block f.next h.room in
      let open_ = (h.kept (λ z. some (sym e ∙ z))).0 in
      or_from (is_below_in old.opened (32 * f.block + f.next)) (is_below_in old.target (32 * f.block + f.next))
      (next_not_below f old.opened open_ h.room)
      (not_below old.target (32 * f.block + f.next) f.block at.0 (in_other old f open_))

  pub unfilled : is_filled old (32 * f.block + f.next) ≡ false
  unfilled = by_room (open_room old) refl (cases_eq (open_room old) 0)

  -- whatever the program left
  pub keeps_put : (a b c : Image) (bytes : List ℕ) → KeepsPages old a b → Fills mid b → LeftByProgram b (32 * f.block + f.next) bytes c → KeepsPages old a c
  keeps_put a b c bytes keeps fills left =
      keeps_then old a b c keeps (keeps_program old b c (32 * f.block + f.next) bytes left page_value (was_erased b fills) unfilled)

  pub sound_put : (g : Filling) → g ≡ record { block = f.block; next = f.next + 1 } → AreValues mid.layout.blocks mid.marks.items mid.free.items (Some g) mid.target
  sound_put g e =
      let was = mid.sound.opened_is f h.opened in
      let block : g.block ≡ f.block = ap (λ (x : Filling). x.block) e in
      opened_sound mid.layout.blocks mid.marks.items mid.free.items mid.opened mid.target mid.sound g
      (record {
        value = subst (IsValueBlock mid.layout.blocks) (sym block) was.value;
        taken = ap (λ k. get_or mid.free.items k false) block ∙ was.taken;
        within = let next = ap (λ (x : Filling). x.next) e in omega (arith, next, h.room);
      })
      (λ t is same. mid.sound.apart f t h.opened is (sym block ∙ same))

  module _ (new : Values) (g : Filling) (page : ℕ) (device : device_of new ≡ device_of mid) (marks : new.marks.items ≡ mid.marks.items) (free : new.free.items ≡ mid.free.items) (opened : new.opened ≡ Some g) (target : new.target ≡ mid.target) (more : g ≡ record { block = f.block; next = f.next + 1 }) (is : page ≡ 32 * f.block + f.next) where
    same_block : g.block ≡ f.block
    same_block = ap (λ (x : Filling). x.block) more

    next_is : g.next ≡ f.next + 1
    next_is = ap (λ (x : Filling). x.next) more

    block_is : page / 32 ≡ f.block
    block_is = ap (λ n. n / 32) is ∙ (block_of f.block f.next h.room).0

    place_is : page % 32 ≡ f.next
    place_is = ap (λ n. n % 32) is ∙ (block_of f.block f.next h.room).1

    is_open : state_at new (page / 32) ≡ Open
    is_open = (λ i. by_tests (is_in (opened i) (page / 32)) (is_in new.target (page / 32)) (get_or new.free.items (page / 32) false))
        ∙ ap (λ b. by_tests b (is_in new.target (page / 32)) (get_or new.free.items (page / 32) false)) (eq-eqb g.block (page / 32) (same_block ∙ sym block_is))

    goes_on : open_room old ≢ 0 → SameBlocks old new × (page % 32 ≡ open_next old)
    goes_on some =
        let kept = h.kept some in (
          record {
            states = λ b. (λ i. by_tests (is_in (opened i) b) (is_in ((target ∙ h.target) i) b) (get_or ((free ∙ kept.1) i) b false))
                ∙ ap (λ k. by_tests (eqb k b) (is_in old.target b) (get_or old.free.items b false)) same_block
                ∙ sym (ap (λ o. by_tests (is_in o b) (is_in old.target b) (get_or old.free.items b false)) kept.0);
            free = ap (λ (fr : List Bool). count_by (λ x. x) fr) (free ∙ kept.1);
          },
          place_is ∙ sym (ap next_in kept.0),
        )

    begins : open_room old ≡ 0 → TakesBlock old (page / 32) Open close_open new × (page % 32 ≡ 0)
    begins none =
        let taken = h.taken none in
        let was : get_or old.free.items f.block false ≡ true = taken.1 in (
          record {
            was = ap (state_at old) block_is ∙ free_state old.layout.blocks old.marks.items old.free.items old.opened old.target old.sound f.block was;
            now = is_open;
            others = λ b ne. (λ i. by_tests (is_in (opened i) b) (is_in ((target ∙ h.target) i) b) (get_or ((free ∙ taken.2) i) b false))
                ∙ begins_open old.layout.blocks old.marks.items old.free.items old.opened old.target old.sound f.block g was same_block b (λ e. ne (e ∙ sym block_is));
            free = ap (λ (fr : List Bool). count_by (λ x. x) fr + 1) (free ∙ taken.2) ∙ count_taken old.free.items f.block was;
          },
          place_is ∙ taken.0,
        )

    pub puts : Puts old page new
    puts = record {
      device = device ∙ h.device;
      marks = λ q. ap (λ (m : List Mark). get_or m q Dead) (marks ∙ h.marks);
      value = subst (λ n. IsValueBlock (device_of old) (n / 32)) (sym is) page_value;
      here = is_open;
      place = let next : open_next new ≡ g.next = ap next_in opened in omega (arith, place_is, next_is);
      room = let next : open_next new ≡ g.next = ap next_in opened in let left : open_room new ≡ 32 - g.next = ap room_in opened in omega (arith, next_is, h.room);
      goes_on = goes_on;
      begins = begins;
      target = record { has = ap is_some (target ∙ h.target); next = ap next_in (target ∙ h.target); pages = λ q. ap (λ o. is_below_in o q) (target ∙ h.target) };
    }

  -- the open block and the block copied into, with the page
  pub fills_put : (b after : Image) (bytes : List ℕ) (g : Filling) → Fills mid b → g ≡ record { block = f.block; next = f.next + 1 } → after ≡ with_page b (32 * f.block + f.next) (Whole bytes) → FillsIn (Some g) after × FillsIn mid.target after
  fills_put b after bytes g fills e is = (
    subst (FillsIn (Some g)) (sym is) (fills_more f g b bytes (subst (λ o. FillsIn o b) h.opened fills.opened) h.room e),
    subst (FillsIn mid.target) (sym is) (in_apart mid.target b (32 * f.block + f.next) (Whole bytes) (ap (is_in mid.target) (block_of f.block f.next h.room).0 ∙ not_target) fills.target),
  )

pub holds_put : (b : Image) (page at : ℕ) (key value bytes : List ℕ) → page ≡ at → bytes ≡ value_page key value → 1 ≤ length key → length key ≤ 32 → 129 ≤ length value → length value ≤ 4096 → HoldsValue key value (with_page b at (Whole bytes) page)
holds_put b page at key value bytes e is some short large fits = record {
  page = with_page-same b at page (Whole bytes) e ∙ ap Whole is;
  key_some = some;
  key_short = short;
  large = large;
  fits = fits;
}
