use Rattle.std.proofs.Common.{◌≡◌, ◌∙◌, ℕ, ◌+◌, None, Some, ap, sym, subst, refl}
use Rattle.kv_nand.specs.Flash.{Flash}
use Rattle.kssd_root.proofs.Anchored.{kept_still}
use Rattle.kssd_root.proofs.Logs.{has_bytes}
use Rattle.kssd_index.specs.declared.index.Older.{Older}
use Rattle.kssd_index.specs.declared.index.Index.{Index}
use Rattle.kssd_index.specs.Standing.{IsIndex}
use Rattle.kssd_index.proofs.Anchored.{aged_still}
use Rattle.kssd_index.proofs.Flushing.{same_index}
use Rattle.kssd_index.proofs.Freezing.{IsWhole, IsTurned, IsFrozen, turn_failed, turned_kept, stands_frozen}
use Rattle.kssd_index.proofs.index.Index.freeze.Goals as goal

pub returns-in_err-empty-clause-kept : goal.returns-in_err-empty-clause-kept
returns-in_err-empty-clause-kept g c =
    let old = g.N.Nand.flash c.args.nand.now in
    let index = c.args.self.now in
    kept_still index.root.page index.root.anchor old.blocks old.image c.requires.stands.root.anchored

pub returns-in_err-empty-clause-aged : goal.returns-in_err-empty-clause-aged
returns-in_err-empty-clause-aged g c =
    let old = g.N.Nand.flash c.args.nand.now in
    aged_still c.args.self.now old.blocks old.image c.requires.stands

pub returns-in_err-turn_anew-clause-kept : goal.returns-in_err-turn_anew-clause-kept
returns-in_err-turn_anew-clause-kept g c =
    let old = g.N.Nand.flash c.args.nand.now in
    let index = c.args.self.now in
    let before : IsWhole index old.blocks old.image = record {
      stands = subst (λ (x : Index). IsIndex x old.blocks old.image) (same_index index None c.requires.none) c.requires.stands;
      has = has_bytes _ (g.met.N.Nand.sound c.args.nand.now);
      low = c.requires.number;
    } in
    (turn_failed index old.blocks old.image _ before c.in_err-turn_anew.ensures.err c.turn_anew.ensures.outside).kept

pub returns-in_err-turn_anew-clause-aged : goal.returns-in_err-turn_anew-clause-aged
returns-in_err-turn_anew-clause-aged g c =
    let old = g.N.Nand.flash c.args.nand.now in
    let index = c.args.self.now in
    let before : IsWhole index old.blocks old.image = record {
      stands = subst (λ (x : Index). IsIndex x old.blocks old.image) (same_index index None c.requires.none) c.requires.stands;
      has = has_bytes _ (g.met.N.Nand.sound c.args.nand.now);
      low = c.requires.number;
    } in
    (turn_failed index old.blocks old.image _ before c.in_err-turn_anew.ensures.err c.turn_anew.ensures.outside).aged

pub returns-clause-stands : goal.returns-clause-stands
returns-clause-stands g c =
    let old = g.N.Nand.flash c.args.nand.now in
    let index = c.args.self.now in
    let before : IsWhole index old.blocks old.image = record {
      stands = subst (λ (x : Index). IsIndex x old.blocks old.image) (same_index index None c.requires.none) c.requires.stands;
      has = has_bytes _ (g.met.N.Nand.sound c.args.nand.now);
      low = c.requires.number;
    } in
    let new = g.N.Nand.flash c.turn_anew.new.nand in
    let turned : IsTurned index c.turn_anew.new.self old.blocks old.image new.image = record {
      before = before;
      at = c.in_ok-turn_anew.ensures.next;
      free = c.in_ok-turn_anew.ensures.place.free;
      empty = c.in_ok-turn_anew.ensures.empty;
      carries = c.in_ok-turn_anew.ensures.ok;
      outside = c.turn_anew.ensures.outside;
    } in
    let older : Older = record { table = c.freeze-table.result; log_block = c.block.result; log_seq = c.seq.result } in
    let frozen : IsFrozen index older c.turn_anew.new.self = record {
      table = c.freeze-table.ensures ∙ c.replace.ensures.value;
      block = c.block.ensures.block;
      seq = c.seq.ensures.number;
      low = c.block.ensures.ring.0;
      high = c.block.ensures.ring.1;
    } in
    let blocks : new.blocks ≡ old.blocks = ap (λ (f : Flash). f.blocks) c.in_ok-turn_anew.ensures.works.after in
    subst (λ (n : ℕ). IsIndex (record { root = index.root; table = c.replace.new.dest; older = Some older; ring = c.turn_anew.new.self; age = index.age + 1; job = index.job }) n new.image) (sym blocks)
    (stands_frozen index older c.replace.new.dest c.turn_anew.new.self (index.age + 1) old.blocks old.image new.image turned frozen (c.replace.ensures.after ∙ c.in_ok-empty.ensures) refl)

pub returns-clause-kept : goal.returns-clause-kept
returns-clause-kept g c =
    let old = g.N.Nand.flash c.args.nand.now in
    let index = c.args.self.now in
    let before : IsWhole index old.blocks old.image = record {
      stands = subst (λ (x : Index). IsIndex x old.blocks old.image) (same_index index None c.requires.none) c.requires.stands;
      has = has_bytes _ (g.met.N.Nand.sound c.args.nand.now);
      low = c.requires.number;
    } in
    let new = g.N.Nand.flash c.turn_anew.new.nand in
    let turned : IsTurned index c.turn_anew.new.self old.blocks old.image new.image = record {
      before = before;
      at = c.in_ok-turn_anew.ensures.next;
      free = c.in_ok-turn_anew.ensures.place.free;
      empty = c.in_ok-turn_anew.ensures.empty;
      carries = c.in_ok-turn_anew.ensures.ok;
      outside = c.turn_anew.ensures.outside;
    } in
    (turned_kept index c.turn_anew.new.self old.blocks old.image new.image turned).kept

pub returns-clause-aged : goal.returns-clause-aged
returns-clause-aged g c =
    let old = g.N.Nand.flash c.args.nand.now in
    let index = c.args.self.now in
    let before : IsWhole index old.blocks old.image = record {
      stands = subst (λ (x : Index). IsIndex x old.blocks old.image) (same_index index None c.requires.none) c.requires.stands;
      has = has_bytes _ (g.met.N.Nand.sound c.args.nand.now);
      low = c.requires.number;
    } in
    let new = g.N.Nand.flash c.turn_anew.new.nand in
    let turned : IsTurned index c.turn_anew.new.self old.blocks old.image new.image = record {
      before = before;
      at = c.in_ok-turn_anew.ensures.next;
      free = c.in_ok-turn_anew.ensures.place.free;
      empty = c.in_ok-turn_anew.ensures.empty;
      carries = c.in_ok-turn_anew.ensures.ok;
      outside = c.turn_anew.ensures.outside;
    } in
    (turned_kept index c.turn_anew.new.self old.blocks old.image new.image turned).aged
