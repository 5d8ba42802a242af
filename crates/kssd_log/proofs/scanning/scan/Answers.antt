use Rattle.std.proofs.Common.{◌≡◌, ◌≤◌, ◌<◌, ◌+◌, ◌-◌, ◌∙◌, ℕ, length, refl, ap, subst, arith}
use Rattle.kv_nand.specs.Flash.{Image}
use Rattle.kv_nand.specs.Working.{Works}
use Rattle.kssd_model.specs.Groups.{LogPage, Ends, Holds, seen, Stands, key_set}
use Rattle.kssd_log.specs.declared.scanning.Look.{Look}
use Rattle.kssd_log.specs.Scan.{look_seen, log_page, LookStands}
use Rattle.kssd_log.proofs.ScanSteps.{seen_there, scanning_on, scanning_group, scanned, keys_refused, reads_more, reads_done}
use Rattle.kssd_log.proofs.scanning.scan.Goals as goal

pub returns-in-Ends-clause-ok : goal.returns-in-Ends-clause-ok
returns-in-Ends-clause-ok g c =
    let old = g.N.Nand.flash c.args.nand.now in
    let at = c.pages.page in
    let number = c.pages.number in
    let ends : seen at number (old.image at) ≡ Ends = seen_there old.image (g.N.Nand.flash c.pages.nand).image at number c.in_ok-read_at.field-0 Ends c.pages.invariant.same c.in_ok-read_at.ensures.ok (ap look_seen c.in-Ends.is) in
    scanned old.image _ _ _ c.pages.rest c.pages.keys.keys c.pages.turns at c.pages.invariant.so_far ends refl c.requires.number

pub returns-then-len-gt-MOST_KEYS-clause-err : goal.returns-then-len-gt-MOST_KEYS-clause-err
returns-then-len-gt-MOST_KEYS-clause-err g c =
    let old = g.N.Nand.flash c.args.nand.now in
    let at = c.pages.page in
    let number = c.pages.number in
    let so_far = c.pages.invariant.so_far in
    let x : LogPage = log_page c.in-Holds.read in
    let holds : seen at number (old.image at) ≡ Holds x = seen_there old.image (g.N.Nand.flash c.pages.nand).image at number c.in_ok-read_at.field-0 (Holds x) c.pages.invariant.same c.in_ok-read_at.ensures.ok (ap look_seen c.in-Holds.is) in
    let flash = g.N.Nand.flash in
    let many : 2048 < length (key_set c.pages.keys.keys x.entries) = omega (arith, ap length c.in_ok-add_keys.ensures, c.len.ensures.len, c.if-len-gt-MOST_KEYS.true) in (
      keys_refused old.image _ _ c.pages.groups c.pages.rest c.pages.keys.keys c.pages.turns at number x so_far holds many,
      reads_done old (flash c.pages.nand) (flash c.read_at.new.nand) old.image _ _ c.pages.groups c.pages.rest c.pages.keys.keys c.pages.turns at number so_far c.pages.invariant.works c.in_ok-read_at.ensures.works,
    )

pub pages-preserved-then-read-eq1 : goal.pages-preserved-then-read-eq1
pages-preserved-then-read-eq1 g c =
    let old = g.N.Nand.flash c.args.nand.now in
    let at = c.pages.page in
    let number = c.pages.number in
    let so_far = c.pages.invariant.so_far in
    let x : LogPage = log_page c.in-Holds.read in
    let holds : seen at number (old.image at) ≡ Holds x = seen_there old.image (g.N.Nand.flash c.pages.nand).image at number c.in_ok-read_at.field-0 (Holds x) c.pages.invariant.same c.in_ok-read_at.ensures.ok (ap look_seen c.in-Holds.is) in
    let flash = g.N.Nand.flash in
    let less : length (key_set c.pages.keys.keys x.entries) ≤ 2048 = omega (arith, ap length c.in_ok-add_keys.ensures, c.len.ensures.len, c.if-len-gt-MOST_KEYS.false) in
    let there : Stands (flash c.pages.nand).image at number x = subst (λ (look : Look). LookStands (flash c.pages.nand).image at number look) c.in-Holds.is c.in_ok-read_at.ensures.stands in
    let stands : Stands old.image at number x = subst (λ (image : Image). Stands image at number x) c.pages.invariant.same there in
    let one : number - c.args.seq + 1 ≡ number + 1 - c.args.seq = omega (arith, so_far.least) in
    let reads = subst (λ (n : ℕ). Works old (flash c.read_at.new.nand) 0 n) one (reads_more old (flash c.pages.nand) (flash c.read_at.new.nand) c.args.seq number so_far.least c.pages.invariant.works c.in_ok-read_at.ensures.works) in
    let group = scanning_group old.image _ _ c.pages.groups c.pages.rest c.pages.keys.keys c.pages.turns at number x so_far holds stands c.if-turns-ge-MOST_BLOCKS.false less c.if-read-eq1.true in
    record {
      so_far = rw (c.turns_at-turns.ensures, c.behind-page.ensures, c.in_ok-push.ensures.ok, c.in_ok-append.ensures.ok, c.new-rest-then-read-eq1.ensures, c.in_ok-add_keys.ensures) group;
      same = c.in_ok-read_at.ensures.same ∙ c.pages.invariant.same;
      works = reads;
    }

pub pages-preserved : goal.pages-preserved
pages-preserved g c =
    let old = g.N.Nand.flash c.args.nand.now in
    let at = c.pages.page in
    let number = c.pages.number in
    let so_far = c.pages.invariant.so_far in
    let x : LogPage = log_page c.in-Holds.read in
    let holds : seen at number (old.image at) ≡ Holds x = seen_there old.image (g.N.Nand.flash c.pages.nand).image at number c.in_ok-read_at.field-0 (Holds x) c.pages.invariant.same c.in_ok-read_at.ensures.ok (ap look_seen c.in-Holds.is) in
    let flash = g.N.Nand.flash in
    let less : length (key_set c.pages.keys.keys x.entries) ≤ 2048 = omega (arith, ap length c.in_ok-add_keys.ensures, c.len.ensures.len, c.if-len-gt-MOST_KEYS.false) in
    let there : Stands (flash c.pages.nand).image at number x = subst (λ (look : Look). LookStands (flash c.pages.nand).image at number look) c.in-Holds.is c.in_ok-read_at.ensures.stands in
    let stands : Stands old.image at number x = subst (λ (image : Image). Stands image at number x) c.pages.invariant.same there in
    let one : number - c.args.seq + 1 ≡ number + 1 - c.args.seq = omega (arith, so_far.least) in
    let reads = subst (λ (n : ℕ). Works old (flash c.read_at.new.nand) 0 n) one (reads_more old (flash c.pages.nand) (flash c.read_at.new.nand) c.args.seq number so_far.least c.pages.invariant.works c.in_ok-read_at.ensures.works) in
    let on = scanning_on old.image _ _ c.pages.groups c.pages.rest c.pages.keys.keys c.pages.turns at number x so_far holds stands c.if-turns-ge-MOST_BLOCKS.false less c.if-read-eq1.false in
    record {
      so_far = rw (c.turns_at-turns.ensures, c.behind-page.ensures, c.in_ok-append.ensures.ok, c.in_ok-add_keys.ensures) on;
      same = c.in_ok-read_at.ensures.same ∙ c.pages.invariant.same;
      works = reads;
    }
