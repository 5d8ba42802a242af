use Rattle.std.proofs.Common.{◌≡◌, ◌∙◌, ◌/◌, ℕ, List, true, sym, subst, refl, arith, rules, get_or, take_all, false}
use Rattle.kssd_layout.specs.Numbers.{first_value_block_in}
use Rattle.kssd_values.specs.Places.{IsValueBlock}
use Rattle.kssd_values.proofs.Opening.{AreMarked, has_page, has_in_block, marked_none, marked_more, marked_sound, page_low, state_from}
use Rattle.kssd_values.proofs.values.Values.open.Goals as goal

pub index_mut-requires : goal.index_mut-requires
index_mut-requires c =
    let device = c.args.layout.now.blocks in
    let value = subst (λ (xs : List ℕ). (p : ℕ) → has_page xs p ≡ true → IsValueBlock device (p / 32)) (sym c.as_slice-page-items.ensures) c.requires in
    omega (arith, page_low device c.as_slice-page-items.result.now c.loop-page.page-index value c.loop-page-test.true, c.loop-page.invariant.page_count, c.loop-page.marks.ok.0)

pub index_mut-requires-in-loop-page : goal.index_mut-requires-in-loop-page
index_mut-requires-in-loop-page c =
    let device = c.args.layout.now.blocks in
    let value = subst (λ (xs : List ℕ). (p : ℕ) → has_page xs p ≡ true → IsValueBlock device (p / 32)) (sym c.as_slice-page-items.ensures) c.requires in
    omega (arith, page_low device c.as_slice-page-items.result.now c.loop-page.page-index value c.loop-page-test.true, c.loop-page.invariant.block_count, c.loop-page.free.ok.0)

pub loop-page-init : goal.loop-page-init
loop-page-init c = marked_none c.args.layout.now.blocks c.in_ok-marks.marks.items c.in_ok-free.free.items (c.in_ok-marks.ensures.items_if_clones_equal (λ y is. search rules)) c.in_ok-free.ensures.blocks c.in_ok-free.ensures.free

pub loop-page-preserved : goal.loop-page-preserved
loop-page-preserved c =
    let device = c.args.layout.now.blocks in
    let value = subst (λ (xs : List ℕ). (p : ℕ) → has_page xs p ≡ true → IsValueBlock device (p / 32)) (sym c.as_slice-page-items.ensures) c.requires in
    let low = page_low device c.as_slice-page-items.result.now c.loop-page.page-index value c.loop-page-test.true in
    marked_more device c.as_slice-page-items.result.now c.loop-page.marks.items c.loop-page.free.items c.loop-page.page-index (get_or c.as_slice-page-items.result.now c.loop-page.page-index 0) c.loop-page.invariant c.loop-page-test.true refl (omega (arith, low))

pub invariant_of-result : goal.invariant_of-result
invariant_of-result c =
    let device = c.args.layout.now.blocks in
    let all = take_all c.loop-page.page-index c.as_slice-page-items.result.now c.loop-page-test.false ∙ c.as_slice-page-items.ensures in
    record { sound = marked_sound device c.args.visible.now c.loop-page.marks.items c.loop-page.free.items (subst (λ (xs : List ℕ). AreMarked device xs c.loop-page.marks.items c.loop-page.free.items) all c.loop-page.invariant) c.requires }

pub returns-clause-marks : goal.returns-clause-marks
returns-clause-marks c page =
    let device = c.args.layout.now.blocks in
    let all = take_all c.loop-page.page-index c.as_slice-page-items.result.now c.loop-page-test.false ∙ c.as_slice-page-items.ensures in
    (subst (λ (xs : List ℕ). AreMarked device xs c.loop-page.marks.items c.loop-page.free.items) all c.loop-page.invariant).marked page

pub returns-clause-states : goal.returns-clause-states
returns-clause-states c block value =
    let device = c.args.layout.now.blocks in
    let all = take_all c.loop-page.page-index c.as_slice-page-items.result.now c.loop-page-test.false ∙ c.as_slice-page-items.ensures in
    state_from (first_value_block_in device) device block (get_or c.loop-page.free.items block false) (has_in_block c.args.visible.now block) value.first ((subst (λ (xs : List ℕ). AreMarked device xs c.loop-page.marks.items c.loop-page.free.items) all c.loop-page.invariant).freed block value.last)
