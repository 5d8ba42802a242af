use Rattle.std.proofs.Common.{true, false, ◌≡◌, ◌∙◌, ℕ, ◌+◌, Option, None, Some, ap, sym, subst, arith}
use Rattle.std.specs.Prelude.{is_some}
use Rattle.std.proofs.lemmas.Result.{err_from_is_err_and}
use Rattle.kv_nand.specs.Flash.{Flash}
use Rattle.kssd_root.specs.Following.{with_log, IsSplit}
use Rattle.kssd_root.specs.Standing.{IsRoot}
use Rattle.kssd_root.proofs.Anchored.{kept_still}
use Rattle.kssd_root.proofs.Moving.{root_age}
use Rattle.kssd_index.specs.declared.index.Older.{Older}
use Rattle.kssd_index.specs.declared.index.Index.{Index}
use Rattle.kssd_index.specs.Standing.{IsIndex}
use Rattle.kssd_index.proofs.Anchored.{aged_still}
use Rattle.kssd_index.proofs.Flushing.{same_index, split_after, flushed, flush_works, flush_stops}
use Rattle.kssd_index.proofs.index.Index.flush_older.Goals as goal

pub returns-in_default-clause-kept : goal.returns-in_default-clause-kept
returns-in_default-clause-kept g c =
    let old = g.N.Nand.flash c.args.nand.now in
    let index = c.args.self.now in
    kept_still index.root.page index.root.anchor old.blocks old.image c.requires.stands.root.anchored

pub returns-in_default-clause-aged : goal.returns-in_default-clause-aged
returns-in_default-clause-aged g c =
    let old = g.N.Nand.flash c.args.nand.now in
    aged_still c.args.self.now old.blocks old.image c.requires.stands

pub flush_older-requires-clause-split : goal.flush_older-requires-clause-split
flush_older-requires-clause-split g c =
    let old = g.N.Nand.flash c.args.nand.now in
    let mid = g.N.Nand.flash c.make_room.new.nand in
    let index = c.args.self.now in
    let next = c.make_room.new.self in
    let age = root_age next mid.blocks mid.image c.in_ok-make_room.ensures.root in
    let older = c.in-Some.older in
    let h : IsIndex (record index { older = Some older }) old.blocks old.image = subst (λ (x : Index). IsIndex x old.blocks old.image) (same_index index (Some older) (sym c.take.ensures.value ∙ c.in-Some.is)) c.requires.stands in
    let first : mid.blocks ≡ old.blocks = ap (λ (f : Flash). f.blocks) c.in_ok-make_room.ensures.works.after in
    subst (λ (n : ℕ). IsSplit older.table (with_log next.anchor older.log_block older.log_seq) next n mid.image) (sym first)
    (split_after older.table older.log_block older.log_seq index.root next old.blocks old.image mid.image h.root h.split c.in_ok-make_room.ensures.log c.in_ok-make_room.ensures.over)

pub flush_older-requires-clause-number : goal.flush_older-requires-clause-number
flush_older-requires-clause-number g c =
    let old = g.N.Nand.flash c.args.nand.now in
    let mid = g.N.Nand.flash c.make_room.new.nand in
    let index = c.args.self.now in
    let next = c.make_room.new.self in
    let age = root_age next mid.blocks mid.image c.in_ok-make_room.ensures.root in
    omega (arith, age, c.make_room.ensures.aged, c.requires.stands.numbers, c.requires.number)

pub returns-in_err-flush_older-clause-aged : goal.returns-in_err-flush_older-clause-aged
returns-in_err-flush_older-clause-aged g c =
    let old = g.N.Nand.flash c.args.nand.now in
    let mid = g.N.Nand.flash c.make_room.new.nand in
    let index = c.args.self.now in
    let next = c.make_room.new.self in
    let age = root_age next mid.blocks mid.image c.in_ok-make_room.ensures.root in
    omega (arith, age, c.make_room.ensures.aged, c.requires.stands.numbers, c.flush_older.ensures.aged)

pub returns-clause-stands : goal.returns-clause-stands
returns-clause-stands g c =
    let old = g.N.Nand.flash c.args.nand.now in
    let mid = g.N.Nand.flash c.make_room.new.nand in
    let index = c.args.self.now in
    let next = c.make_room.new.self in
    let age = root_age next mid.blocks mid.image c.in_ok-make_room.ensures.root in
    let older = c.in-Some.older in
    let h : IsIndex (record index { older = Some older }) old.blocks old.image = subst (λ (x : Index). IsIndex x old.blocks old.image) (same_index index (Some older) (sym c.take.ensures.value ∙ c.in-Some.is)) c.requires.stands in
    let first : mid.blocks ≡ old.blocks = ap (λ (f : Flash). f.blocks) c.in_ok-make_room.ensures.works.after in
    let new = g.N.Nand.flash c.flush_older.new.nand in
    let root = c.flush_older.new.self in
    let second : new.blocks ≡ old.blocks = ap (λ (f : Flash). f.blocks) c.in_ok-flush_older.ensures.works.after ∙ first in
    let now = root_age root new.blocks new.image c.in_ok-flush_older.ensures.root in
    let root_is : IsRoot root old.blocks new.image = subst (λ (n : ℕ). IsRoot root n new.image) second c.in_ok-flush_older.ensures.root in
    subst (λ (p : Option Older × ℕ). IsIndex (record { root = root; table = index.table; older = p.0; ring = index.ring; age = index.age + 3; job = None }) p.1 new.image) (λ i. (sym c.take.ensures.after i, sym second i))
    (flushed index older next.anchor root (index.age + 3) old.blocks old.image mid.image new.image h c.in_ok-make_room.ensures.log c.in_ok-flush_older.ensures.log root_is (omega (arith, now, age, c.make_room.ensures.aged, c.requires.stands.numbers, c.flush_older.ensures.aged)))

pub returns-clause-aged : goal.returns-clause-aged
returns-clause-aged g c =
    let old = g.N.Nand.flash c.args.nand.now in
    let mid = g.N.Nand.flash c.make_room.new.nand in
    let index = c.args.self.now in
    let next = c.make_room.new.self in
    let age = root_age next mid.blocks mid.image c.in_ok-make_room.ensures.root in
    omega (arith, age, c.make_room.ensures.aged, c.requires.stands.numbers, c.flush_older.ensures.aged)

pub returns-in_err-flush_older-clause-stops : goal.returns-in_err-flush_older-clause-stops
returns-in_err-flush_older-clause-stops g c =
    let old = g.N.Nand.flash c.args.nand.now in
    let mid = g.N.Nand.flash c.make_room.new.nand in
    let new = g.N.Nand.flash c.flush_older.new.nand in
    let older = c.in-Some.older in
    let is : c.args.self.now.older ≡ Some older = sym c.take.ensures.value ∙ c.in-Some.is in
    let p = err_from_is_err_and c.from_residual-in_err-flush_older.result c.from_residual-in_err-flush_older.ensures.1 in
    rw (p.1, p.2) (flush_stops c.args.self.now.older older old mid new _ is (g.met.N.Nand.sound c.flush_older.new.nand) c.in_ok-make_room.ensures.works c.in_err-flush_older.ensures.stops)

pub returns-clause-works : goal.returns-clause-works
returns-clause-works g c =
    let old = g.N.Nand.flash c.args.nand.now in
    let mid = g.N.Nand.flash c.make_room.new.nand in
    let new = g.N.Nand.flash c.flush_older.new.nand in
    let older = c.in-Some.older in
    let is : c.args.self.now.older ≡ Some older = sym c.take.ensures.value ∙ c.in-Some.is in
    flush_works c.args.self.now.older older old mid new is (g.met.N.Nand.sound c.flush_older.new.nand) c.in_ok-make_room.ensures.works c.in_ok-flush_older.ensures.works

pub returns-clause-root : goal.returns-clause-root
returns-clause-root g c none =
    let is : c.args.self.now.older ≡ Some c.in-Some.older = sym c.take.ensures.value ∙ c.in-Some.is in
    absurd (let e : true ≡ false = sym (ap (λ (o : Option Older). is_some o) is) ∙ none in cc)
