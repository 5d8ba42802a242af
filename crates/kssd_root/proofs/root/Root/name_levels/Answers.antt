use Rattle.std.proofs.Common.{◌∙◌, ℕ, arith, ap, sym, subst}
use Rattle.kv_nand.specs.Flash.{Flash}
use Rattle.kssd_root.proofs.Anchored.{age_is, kept_still}
use Rattle.kssd_root.proofs.Naming.{IsReady, spelled, can_follow, old_or_given, given, new_root}
use Rattle.kssd_root.proofs.root.Root.name_levels.Goals as goal

pub returns-in_err-next-clause-kept : goal.returns-in_err-next-clause-kept
returns-in_err-next-clause-kept g c =
    let old = g.N.Nand.flash c.args.nand.now in
    let root = c.args.self.now in
    kept_still root.page root.anchor old.blocks old.image c.requires.anchored

pub returns-in_err-next-clause-aged : goal.returns-in_err-next-clause-aged
returns-in_err-next-clause-aged g c =
    let old = g.N.Nand.flash c.args.nand.now in
    let root = c.args.self.now in
    omega (arith, age_is root.page root.anchor old.image c.requires.anchored.newest)

pub write-requires-clause-spelling : goal.write-requires-clause-spelling
write-requires-clause-spelling g c =
    let old = g.N.Nand.flash c.args.nand.now in
    let root = c.args.self.now in
    let ready : IsReady root.page root.anchor c.in_ok-next.next root.levels c.args.log_block c.args.log_seq old.blocks old.image = record { anchored = c.requires.anchored; follow = c.requires.levels; begin = c.requires.log; named = c.in_ok-next.ensures.named; is = c.in_ok-next.ensures.next; low = c.requires.number } in
    spelled root.page root.anchor c.in_ok-next.next root.levels c.args.log_block c.args.log_seq old.blocks old.image (omega (arith, c.requires.device, root.layout.exact.most)) ready

pub write-requires-clause-last : goal.write-requires-clause-last
write-requires-clause-last g c =
    let old = g.N.Nand.flash c.args.nand.now in
    let root = c.args.self.now in
    let ready : IsReady root.page root.anchor c.in_ok-next.next root.levels c.args.log_block c.args.log_seq old.blocks old.image = record { anchored = c.requires.anchored; follow = c.requires.levels; begin = c.requires.log; named = c.in_ok-next.ensures.named; is = c.in_ok-next.ensures.next; low = c.requires.number } in
    can_follow root.page root.anchor c.in_ok-next.next root.levels c.args.log_block c.args.log_seq old.blocks old.image ready

pub returns-in_err-self-clause-kept : goal.returns-in_err-self-clause-kept
returns-in_err-self-clause-kept g c =
    let old = g.N.Nand.flash c.args.nand.now in
    let root = c.args.self.now in
    let ready : IsReady root.page root.anchor c.in_ok-next.next root.levels c.args.log_block c.args.log_seq old.blocks old.image = record { anchored = c.requires.anchored; follow = c.requires.levels; begin = c.requires.log; named = c.in_ok-next.ensures.named; is = c.in_ok-next.ensures.next; low = c.requires.number } in
    (old_or_given root.page root.anchor c.in_ok-next.next root.levels c.args.log_block c.args.log_seq old.blocks old.image (g.N.Nand.flash c.write.new.nand).image ready c.in_err-self.ensures.err c.in_err-self.ensures.behind).kept

pub returns-in_err-self-clause-aged : goal.returns-in_err-self-clause-aged
returns-in_err-self-clause-aged g c =
    let old = g.N.Nand.flash c.args.nand.now in
    let root = c.args.self.now in
    let ready : IsReady root.page root.anchor c.in_ok-next.next root.levels c.args.log_block c.args.log_seq old.blocks old.image = record { anchored = c.requires.anchored; follow = c.requires.levels; begin = c.requires.log; named = c.in_ok-next.ensures.named; is = c.in_ok-next.ensures.next; low = c.requires.number } in
    (old_or_given root.page root.anchor c.in_ok-next.next root.levels c.args.log_block c.args.log_seq old.blocks old.image (g.N.Nand.flash c.write.new.nand).image ready c.in_err-self.ensures.err c.in_err-self.ensures.behind).aged

pub returns-clause-root : goal.returns-clause-root
returns-clause-root g c =
    let old = g.N.Nand.flash c.args.nand.now in
    let root = c.args.self.now in
    let ready : IsReady root.page root.anchor c.in_ok-next.next root.levels c.args.log_block c.args.log_seq old.blocks old.image = record { anchored = c.requires.anchored; follow = c.requires.levels; begin = c.requires.log; named = c.in_ok-next.ensures.named; is = c.in_ok-next.ensures.next; low = c.requires.number } in
    let home = subst (λ (n : ℕ). IsReady root.page root.anchor c.in_ok-next.next root.levels c.args.log_block c.args.log_seq n old.image) (sym c.requires.device) ready in
    new_root root.page c.in_ok-self.field-0 root.anchor c.in_ok-next.next root.levels c.args.log_block c.args.log_seq root.layout old.image (g.N.Nand.flash c.write.new.nand) home c.in_ok-self.ensures.ok.newest c.in_ok-self.ensures.behind (ap (λ (f : Flash). f.blocks) c.in_ok-self.ensures.works.after ∙ sym c.requires.device)

pub returns-clause-kept : goal.returns-clause-kept
returns-clause-kept g c =
    let old = g.N.Nand.flash c.args.nand.now in
    let root = c.args.self.now in
    let ready : IsReady root.page root.anchor c.in_ok-next.next root.levels c.args.log_block c.args.log_seq old.blocks old.image = record { anchored = c.requires.anchored; follow = c.requires.levels; begin = c.requires.log; named = c.in_ok-next.ensures.named; is = c.in_ok-next.ensures.next; low = c.requires.number } in
    (given root.page c.in_ok-self.field-0 root.anchor c.in_ok-next.next root.levels c.args.log_block c.args.log_seq old.blocks old.image (g.N.Nand.flash c.write.new.nand).image ready c.in_ok-self.ensures.ok.newest c.in_ok-self.ensures.behind).kept

pub returns-clause-aged : goal.returns-clause-aged
returns-clause-aged g c =
    let old = g.N.Nand.flash c.args.nand.now in
    let root = c.args.self.now in
    let ready : IsReady root.page root.anchor c.in_ok-next.next root.levels c.args.log_block c.args.log_seq old.blocks old.image = record { anchored = c.requires.anchored; follow = c.requires.levels; begin = c.requires.log; named = c.in_ok-next.ensures.named; is = c.in_ok-next.ensures.next; low = c.requires.number } in
    (given root.page c.in_ok-self.field-0 root.anchor c.in_ok-next.next root.levels c.args.log_block c.args.log_seq old.blocks old.image (g.N.Nand.flash c.write.new.nand).image ready c.in_ok-self.ensures.ok.newest c.in_ok-self.ensures.behind).aged
