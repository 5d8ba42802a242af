use Rattle.std.proofs.Common.{ap, arith}
use Rattle.kv_nand.specs.Flash.{Flash}
use Rattle.kssd_root.proofs.Logs.{has_bytes}
use Rattle.kssd_index.proofs.Appending.{may_append, left_appended, appended, stands_behind, aged_behind}
use Rattle.kssd_index.proofs.index.Index.append.Goals as goal

pub returns-in_err-append_group-clause-kept : goal.returns-in_err-append_group-clause-kept
returns-in_err-append_group-clause-kept g c =
    (may_append c.args.self.now _ _ _ c.args.entries.now (has_bytes _ (g.met.N.Nand.sound c.args.nand.now))
    (record { stands = c.requires.stands; few = c.requires.size.1; rising = c.requires.rising; place = c.requires.place; keys = c.requires.keys; pages = c.requires.pages; low = c.requires.number })
    c.in_err-append_group.ensures.err c.in_err-append_group.ensures.outside).kept

pub returns-in_err-append_group-clause-aged : goal.returns-in_err-append_group-clause-aged
returns-in_err-append_group-clause-aged g c =
    (may_append c.args.self.now _ _ _ c.args.entries.now (has_bytes _ (g.met.N.Nand.sound c.args.nand.now))
    (record { stands = c.requires.stands; few = c.requires.size.1; rising = c.requires.rising; place = c.requires.place; keys = c.requires.keys; pages = c.requires.pages; low = c.requires.number })
    c.in_err-append_group.ensures.err c.in_err-append_group.ensures.outside).aged

pub returns-in_err-put_all-clause-kept : goal.returns-in_err-put_all-clause-kept
returns-in_err-put_all-clause-kept g c =
    (left_appended c.args.self.now _ _ _ c.args.entries.now c.append_group.new.self (has_bytes _ (g.met.N.Nand.sound c.args.nand.now))
    (record { stands = c.requires.stands; few = c.requires.size.1; rising = c.requires.rising; place = c.requires.place; keys = c.requires.keys; pages = c.requires.pages; low = c.requires.number })
    c.in_ok-append_group.ensures.ok c.in_ok-append_group.ensures.outside c.in_ok-append_group.ensures.behind).kept

pub returns-in_err-put_all-clause-aged : goal.returns-in_err-put_all-clause-aged
returns-in_err-put_all-clause-aged g c =
    (left_appended c.args.self.now _ _ _ c.args.entries.now c.append_group.new.self (has_bytes _ (g.met.N.Nand.sound c.args.nand.now))
    (record { stands = c.requires.stands; few = c.requires.size.1; rising = c.requires.rising; place = c.requires.place; keys = c.requires.keys; pages = c.requires.pages; low = c.requires.number })
    c.in_ok-append_group.ensures.ok c.in_ok-append_group.ensures.outside c.in_ok-append_group.ensures.behind).aged

pub returns-clause-stands : goal.returns-clause-stands
returns-clause-stands g c =
    stands_behind c.args.self.now (g.N.Nand.flash c.args.nand.now) (g.N.Nand.flash c.append_group.new.nand) c.args.entries.now c.append_group.new.self c.put_all.new.table c.max-self.result (has_bytes _ (g.met.N.Nand.sound c.args.nand.now))
    (record { stands = c.requires.stands; few = c.requires.size.1; rising = c.requires.rising; place = c.requires.place; keys = c.requires.keys; pages = c.requires.pages; low = c.requires.number })
    c.in_ok-append_group.ensures.ok c.in_ok-append_group.ensures.outside c.in_ok-append_group.ensures.behind c.in_ok-append_group.ensures.place
    (ap (λ (f : Flash). f.blocks) c.in_ok-append_group.ensures.works.after) c.in_ok-put_all.ensures (grind arith)

pub returns-clause-shown : goal.returns-clause-shown
returns-clause-shown g c =
    (appended c.args.self.now _ _ _ c.args.entries.now c.append_group.new.self (has_bytes _ (g.met.N.Nand.sound c.args.nand.now))
    (record { stands = c.requires.stands; few = c.requires.size.1; rising = c.requires.rising; place = c.requires.place; keys = c.requires.keys; pages = c.requires.pages; low = c.requires.number })
    c.in_ok-append_group.ensures.ok c.in_ok-append_group.ensures.outside c.in_ok-append_group.ensures.behind).shown

pub returns-clause-kept : goal.returns-clause-kept
returns-clause-kept g c =
    (left_appended c.args.self.now _ _ _ c.args.entries.now c.append_group.new.self (has_bytes _ (g.met.N.Nand.sound c.args.nand.now))
    (record { stands = c.requires.stands; few = c.requires.size.1; rising = c.requires.rising; place = c.requires.place; keys = c.requires.keys; pages = c.requires.pages; low = c.requires.number })
    c.in_ok-append_group.ensures.ok c.in_ok-append_group.ensures.outside c.in_ok-append_group.ensures.behind).kept

pub returns-clause-aged : goal.returns-clause-aged
returns-clause-aged g c =
    aged_behind c.args.self.now _ _ _ c.args.entries.now c.append_group.new.self c.max-self.result (has_bytes _ (g.met.N.Nand.sound c.args.nand.now))
    (record { stands = c.requires.stands; few = c.requires.size.1; rising = c.requires.rising; place = c.requires.place; keys = c.requires.keys; pages = c.requires.pages; low = c.requires.number })
    c.in_ok-append_group.ensures.ok c.in_ok-append_group.ensures.outside c.in_ok-append_group.ensures.behind (grind arith)
