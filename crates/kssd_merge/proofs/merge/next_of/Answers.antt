use Rattle.std.proofs.Common.{◌≡◌, ◌∙◌, List, ◌∷◌, sym, ap, subst}
use Rattle.kv_nand.specs.Flash.{Image}
use Rattle.kssd_model.proofs.ReadingOn.{reads_image}
use Rattle.kssd_entry.specs.declared.entry.Entry.{Entry}
use Rattle.kssd_model.specs.Rising.{merged}
use Rattle.kssd_merge.proofs.Next.{newer_next, older_next, both_next}
use Rattle.kssd_merge.proofs.merge.next_of.Goals as goal

pub returns-in_ok-taken-in-Newer-clause-next : goal.returns-in_ok-taken-in-Newer-clause-next
returns-in_ok-taken-in-Newer-clause-next g c =
    newer_next _ _ _ _ (g.met.A.Ordered.rising c.args.newer.now _ _ c.requires.newer_stands) (g.met.B.Ordered.rising c.args.older.now _ _ c.requires.older_stands) (sym (c.in-Newer.ensures _ _ c.requires.newer_stands c.requires.older_stands)) c.in_ok-taken-in-Newer.ensures.ok

pub returns-in_ok-taken-in-Older-clause-next : goal.returns-in_ok-taken-in-Older-clause-next
returns-in_ok-taken-in-Older-clause-next g c =
    older_next _ _ _ _ (g.met.A.Ordered.rising c.args.newer.now _ _ c.requires.newer_stands) (sym (c.in-Older.ensures _ _ c.requires.newer_stands c.requires.older_stands)) c.in_ok-taken-in-Older.ensures.ok

pub returns-in_ok-taken-in-Both-clause-next : goal.returns-in_ok-taken-in-Both-clause-next
returns-in_ok-taken-in-Both-clause-next g c =
    let image = (g.N.Nand.flash c.args.nand.now).image in
    let first = c.in_ok-taken-in-Both.field-0 in
    let newer = c.taken-in-Both.new.source in
    let taken = subst (λ (im : Image). g.A.Ordered.rest c.args.newer.now im ≡ first ∷ g.A.Ordered.rest newer im) (reads_image _ _ c.in_ok-advance-in-Both.ensures.reads) c.in_ok-taken-in-Both.ensures.ok in
    both_next (g.A.Ordered.rest c.args.newer.now image) (g.A.Ordered.rest newer image) (g.B.Ordered.rest c.args.older.now image) first (g.met.A.Ordered.rising c.args.newer.now _ _ c.requires.newer_stands) (sym (c.in-Both.ensures _ _ c.requires.newer_stands c.requires.older_stands)) taken
    ∙ ap (λ (xs : List Entry). first ∷ merged (g.A.Ordered.rest newer image) xs) (sym c.in_ok-advance-in-Both.ensures.ok)
