use Rattle.kssd_mounted.proofs.Changing.{older_region, change_stands, same_places, no_page, one_page}
use Rattle.kssd_mounted.proofs.mounted.Mounted.change.Goals as goal

pub mark-requires-clause-value : goal.mark-requires-clause-value
mark-requires-clause-value g c =
    older_region c.args.self.now (g.N.Nand.flash c.args.nand.now) c.args.tx.0 c.in-Some.page _ _ c.page_of-older.result c.requires.stands c.find.ensures.value c.page_of-older.ensures c.in-Some.is

pub returns-in-Some-clause-stands : goal.returns-in-Some-clause-stands
returns-in-Some-clause-stands g c =
    change_stands c.args.self.now (g.N.Nand.flash c.args.nand.now) c.args.tx.0 c.args.entry c.key.result.now _ c.page_of-older.result c.mark.new.self c.set.new.self c.requires.stands c.requires.allowed c.requires.unpaged c.key.ensures c.find.ensures.value c.page_of-older.ensures
    (one_page c.page_of-older.result c.in-Some.page c.args.self.now.values c.mark.new.self c.in-Some.is c.mark.ensures.marks) c.mark.ensures.places c.in-Ok.ensures.ok

pub returns-in_default-clause-stands : goal.returns-in_default-clause-stands
returns-in_default-clause-stands g c =
    change_stands c.args.self.now (g.N.Nand.flash c.args.nand.now) c.args.tx.0 c.args.entry c.key.result.now _ c.page_of-older.result c.args.self.now.values c.set.new.self c.requires.stands c.requires.allowed c.requires.unpaged c.key.ensures c.find.ensures.value c.page_of-older.ensures
    (no_page c.page_of-older.result c.args.self.now.values c.in_default.not-Some) (same_places c.args.self.now.values) c.in-Ok.ensures.ok
