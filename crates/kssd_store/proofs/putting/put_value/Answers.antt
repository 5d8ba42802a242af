use Rattle.std.proofs.Common.{◌≡◌, ◌∙◌, ℕ, List, length, ap, arith}
use Rattle.kv_nand.proofs.Chaining.{works_blocks, stops_blocks}
use Rattle.kssd_tx.specs.Refusals.{set_refusal}
use Rattle.kssd_image.specs.Stages.{shown_in}
use Rattle.kssd_mounted.specs.Standing.{mounted_age}
use Rattle.kssd_store.proofs.Leaving.{still_leaves}
use Rattle.kssd_store.proofs.Allowed.{may_set}
use Rattle.kssd_store.proofs.Kept.{objects_kept, leaves_kept}
use Rattle.kssd_store.proofs.Renaming.{older_may_die, older_lives, put_on_dead, marks_put}
use Rattle.kssd_store.proofs.Placed.{IsPlaced, named_again, set_done, stands_after}
use Rattle.kssd_store.proofs.putting.put_value.Given as given
use Rattle.kssd_store.proofs.putting.put_value.Goals as goal

pub returns-in_err-named-clause-leaves : goal.returns-in_err-named-clause-leaves
returns-in_err-named-clause-leaves g c = still_leaves c.args.mounted.now (g.N.Nand.flash c.args.nand.now) (mounted_age c.args.mounted.now) c.requires.stands (omega arith)

pub returns-in_err-page-clause-objects : goal.returns-in_err-page-clause-objects
returns-in_err-page-clause-objects g c = objects_kept c.args.mounted.now (g.N.Nand.flash c.args.nand.now) (g.N.Nand.flash c.put.new.nand) c.requires.stands c.in_err-page.ensures.keeps

pub returns-in_err-page-clause-leaves : goal.returns-in_err-page-clause-leaves
returns-in_err-page-clause-leaves g c =
    let old = g.N.Nand.flash c.args.nand.now in
    let new = g.N.Nand.flash c.put.new.nand in
    leaves_kept c.args.mounted.now old new c.requires.stands c.in_err-page.ensures.keeps (stops_blocks old new c.in_err-page.field-0.0 2 0 c.in_err-page.ensures.err)

pub name_page-requires-clause-allowed : goal.name_page-requires-clause-allowed
name_page-requires-clause-allowed g c =
    let may = may_set c.args.mounted.now (g.N.Nand.flash c.args.nand.now) c.args.tx.0 c.args.key.now c.args.value.now c.requires.stands c.requires.allowed in
    ap (set_refusal c.args.mounted.now.changes c.args.tx.0) c.in_ok-named.ensures ∙ may.room

pub name_page-requires-clause-older : goal.name_page-requires-clause-older
name_page-requires-clause-older g c = older_may_die c.args.mounted.now (g.N.Nand.flash c.args.nand.now) c.put.new.self c.args.tx.0 c.in_ok-named.named c.requires.stands c.in_ok-page.ensures.ok.device

pub name_page-requires-clause-apart : goal.name_page-requires-clause-apart
name_page-requires-clause-apart g c =
    let m = c.args.mounted.now in
    let old = g.N.Nand.flash c.args.nand.now in
    let put = c.in_ok-page.ensures in
    older_lives c.put.new.self (shown_in old.image) m.changes c.args.tx.0 c.in_ok-page.page c.in_ok-named.named
    (marks_put m old c.put.new.self c.requires.stands put.ok.marks)
    (put_on_dead m old c.put.new.self c.in_ok-page.page c.requires.stands put.ok.marks put.free)

pub returns-in_err-name_page-clause-objects : goal.returns-in_err-name_page-clause-objects
returns-in_err-name_page-clause-objects g c = objects_kept c.args.mounted.now (g.N.Nand.flash c.args.nand.now) (g.N.Nand.flash c.put.new.nand) c.requires.stands c.in_ok-page.ensures.keeps

pub returns-in_err-name_page-clause-leaves : goal.returns-in_err-name_page-clause-leaves
returns-in_err-name_page-clause-leaves g c =
    let old = g.N.Nand.flash c.args.nand.now in
    let new = g.N.Nand.flash c.put.new.nand in
    leaves_kept c.args.mounted.now old new c.requires.stands c.in_ok-page.ensures.keeps (works_blocks old new 2 0 c.in_ok-page.ensures.works)

placed : (g : given.Over) (c : goal.In_ok-name_page g)
    → IsPlaced c.args.mounted.now c.name_page.new.mounted (g.N.Nand.flash c.args.nand.now) (g.N.Nand.flash c.put.new.nand) c.put.new.self c.args.tx.0 c.in_ok-page.page c.args.key.now c.args.value.now
placed g c =
    let size : c.new-length.result ≡ length c.args.value.now = c.new-length.ensures ∙ ap (λ (bytes : List ℕ). length bytes) c.bytes.ensures.value in
    let put = c.in_ok-page.ensures in
    let named = c.in_ok-name_page.ensures in
    record {
      stood = c.requires.stands;
      allowed = c.requires.allowed;
      room = c.requires.room;
      puts = put.ok;
      holds_value = put.holds;
      free = put.free;
      fills = put.fills;
      keeps = put.keeps;
      works = put.works;
      named = named_again c.args.mounted.now c.name_page.new.mounted c.put.new.self c.args.tx.0 c.in_ok-page.page c.new-length.result (length c.args.value.now) c.in_ok-named.named c.args.key.now size c.in_ok-named.ensures
          (record { changes = named.changes; marks = named.marks; places = named.places; rest = named.rest });
    }

pub returns-clause-done : goal.returns-clause-done
returns-clause-done g c = set_done c.args.mounted.now c.name_page.new.mounted (g.N.Nand.flash c.args.nand.now) (g.N.Nand.flash c.put.new.nand) c.put.new.self c.args.tx.0 c.in_ok-page.page c.args.key.now c.args.value.now (placed g c)

pub returns-clause-stands : goal.returns-clause-stands
returns-clause-stands g c = stands_after c.args.mounted.now c.name_page.new.mounted (g.N.Nand.flash c.args.nand.now) (g.N.Nand.flash c.put.new.nand) c.put.new.self c.args.tx.0 c.in_ok-page.page c.args.key.now c.args.value.now (placed g c)

pub returns-clause-objects : goal.returns-clause-objects
returns-clause-objects g c = objects_kept c.args.mounted.now (g.N.Nand.flash c.args.nand.now) (g.N.Nand.flash c.put.new.nand) c.requires.stands c.in_ok-page.ensures.keeps

pub returns-clause-leaves : goal.returns-clause-leaves
returns-clause-leaves g c =
    let old = g.N.Nand.flash c.args.nand.now in
    let new = g.N.Nand.flash c.put.new.nand in
    leaves_kept c.args.mounted.now old new c.requires.stands c.in_ok-page.ensures.keeps (works_blocks old new 2 0 c.in_ok-page.ensures.works)
