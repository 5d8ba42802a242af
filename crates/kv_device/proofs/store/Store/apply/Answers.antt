use Rattle.std.proofs.Common.{◌∙◌, ap, sym}
use Rattle.kv_device.specs.Objects.{page_count}
use Rattle.kv_device.proofs.HeldLaws.{held-seen_through, held_same}
use Rattle.kv_device.proofs.store.Store.apply.Goals as goal

pub invariant_of-self : goal.invariant_of-self
invariant_of-self c = record {
  paged = c.args.self.now.paged ∙ ap page_count (sym c.in_err-apply_to.ensures.err);
  held = held_same c.args.self.now.map c.apply_to.new.objects c.in_err-apply_to.ensures.err c.args.self.now.held;
}

pub invariant_of-self-2 : goal.invariant_of-self-2
invariant_of-self-2 c = record {
  paged = c.size_after-size.ensures.pages ∙ ap page_count (sym c.in_ok-apply_to.ensures.ok);
  held = held-seen_through c.args.changes.now c.args.self.now.map c.apply_to.new.objects c.in_ok-apply_to.ensures.ok c.requires.held c.args.self.now.held;
}
