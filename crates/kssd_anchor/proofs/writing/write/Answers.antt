use Rattle.std.proofs.Common.{◌≡◌, ◌∙◌, ℕ, List, Result, Ok, Err, get_or, ap, subst, arith, inl}
use Rattle.std.specs.Prelude.{OnErr}
use Rattle.kv_nand.specs.Flash.{LeftByProgram}
use Rattle.kv_nand.specs.Calls.{programmed}
use Rattle.kv_nand.proofs.Chaining.{works_blocks}
use Rattle.kssd_anchor.proofs.PageMaking.{kind_there}
use Rattle.kssd_anchor.proofs.Placing.{last_below, place_ready, place_stopped, program_left, program_behind, program_done}
use Rattle.kssd_anchor.proofs.writing.write.Goals as goal

on_err : {A E : Type 0} (r : Result A E) (P : Type 0) → P → OnErr r P
on_err (Ok x) P h = tt
on_err (Err e) P h = h

pub next_place-requires-clause-last : goal.next_place-requires-clause-last
next_place-requires-clause-last g c = last_below (g.N.Nand.flash c.args.nand.now).image c.args.last c.args.anchor.now c.requires.last

pub returns-in_err-page-clause-err : goal.returns-in_err-page-clause-err
returns-in_err-page-clause-err g c =
    let flash = g.N.Nand.flash in
    let kept = place_stopped (flash c.args.nand.now).image (flash c.next_place.new.nand).image c.args.last c.args.anchor.now c.requires.last c.next_place.ensures.left in
    on_err _ _ (inl kept.0)

pub program-requires-clause-range : goal.program-requires-clause-range
program-requires-clause-range g c =
    let flash = g.N.Nand.flash in
    let ready = place_ready (flash c.args.nand.now).image (flash c.next_place.new.nand).image c.args.last c.args.anchor.now c.in_ok-page.page c.requires.last c.in_ok-page.ensures.ok in
    omega (arith, ready.below, works_blocks (flash c.args.nand.now) (flash c.next_place.new.nand) 1 32 c.in_ok-page.ensures.works, c.requires.blocks)

pub program-requires-clause-kind : goal.program-requires-clause-kind
program-requires-clause-kind g c =
    let kind : get_or c.in_ok-from.from 4096 0 ≡ 1 = ap (λ (page : List ℕ). get_or page 4096 0) c.in_ok-from.ensures.page ∙ kind_there c.args.anchor.now c.requires.spelling.room in
    omega (arith, kind, g.met.N.Nand.kinds)

pub returns-in_err-program-clause-err : goal.returns-in_err-program-clause-err
returns-in_err-program-clause-err g c =
    let flash = g.N.Nand.flash in
    let mid = (flash c.next_place.new.nand).image in
    let new = (flash c.program.new.self).image in
    let ready = place_ready (flash c.args.nand.now).image mid c.args.last c.args.anchor.now c.in_ok-page.page c.requires.last c.in_ok-page.ensures.ok in
    let left = subst (λ (bytes : List ℕ). LeftByProgram mid c.in_ok-page.page bytes new) c.in_ok-from.ensures.page c.program.ensures.left in
    on_err _ _ (program_left (flash c.args.nand.now).image mid new c.args.anchor.now c.in_ok-page.page ready left c.in_ok-from.ensures.fits c.requires.spelling)

pub returns-in_err-program-clause-behind : goal.returns-in_err-program-clause-behind
returns-in_err-program-clause-behind g c =
    let flash = g.N.Nand.flash in
    let mid = (flash c.next_place.new.nand).image in
    let new = (flash c.program.new.self).image in
    let ready = place_ready (flash c.args.nand.now).image mid c.args.last c.args.anchor.now c.in_ok-page.page c.requires.last c.in_ok-page.ensures.ok in
    let left = subst (λ (bytes : List ℕ). LeftByProgram mid c.in_ok-page.page bytes new) c.in_ok-from.ensures.page c.program.ensures.left in
    program_behind (flash c.args.nand.now).image mid new c.args.anchor.now c.in_ok-page.page ready left

pub returns-clause-ok : goal.returns-clause-ok
returns-clause-ok g c =
    let flash = g.N.Nand.flash in
    let mid = (flash c.next_place.new.nand).image in
    let new = (flash c.program.new.self).image in
    let ready = place_ready (flash c.args.nand.now).image mid c.args.last c.args.anchor.now c.in_ok-page.page c.requires.last c.in_ok-page.ensures.ok in
    let done = ap (λ f. f.image) (c.in_ok-program.ensures.ok ∙ ap (λ (bytes : List ℕ). programmed (flash c.next_place.new.nand) c.in_ok-page.page bytes) c.in_ok-from.ensures.page) in
    program_done (flash c.args.nand.now).image mid new c.args.last c.args.anchor.now c.in_ok-page.page c.in_ok-page.ensures.ok ready done c.in_ok-from.ensures.fits c.requires.spelling

pub returns-clause-behind : goal.returns-clause-behind
returns-clause-behind g c =
    let flash = g.N.Nand.flash in
    let mid = (flash c.next_place.new.nand).image in
    let new = (flash c.program.new.self).image in
    let ready = place_ready (flash c.args.nand.now).image mid c.args.last c.args.anchor.now c.in_ok-page.page c.requires.last c.in_ok-page.ensures.ok in
    let left = subst (λ (bytes : List ℕ). LeftByProgram mid c.in_ok-page.page bytes new) c.in_ok-from.ensures.page c.program.ensures.left in
    program_behind (flash c.args.nand.now).image mid new c.args.anchor.now c.in_ok-page.page ready left
