use Rattle.std.proofs.Common.{◌∙◌, sym, ap}
use Rattle.std.specs.Prelude.{nat_eq}
use Rattle.std.specs.List.{starts_with}
use Rattle.kssd_model.proofs.ReadingOn.{reads_then_reads}
use Rattle.kssd_machine.specs.Viewing.{with_prefix}
use Rattle.kssd_views.specs.Listing.{is_past}
use Rattle.kssd_views.proofs.Pairing.{has_come, none_come, left_rises, first_with, first_without, past_none, stands_before, fewer}
use Rattle.kssd_views.proofs.listing.next_with.Goals as goal

pub returns-in-None-clause-next : goal.returns-in-None-clause-next
returns-in-None-clause-next g c =
    c.entries.invariant.left
    ∙ ap (with_prefix c.args.prefix.now) (none_come (g.N.Nand.flash c.args.nand.now) (g.N.Nand.flash c.entries.nand) c.entries.own c.entries.shown c.in_ok-next.next _ c.entries.invariant.reads c.in-None.is c.in_ok-next.ensures.next)

pub returns-then-has_prefix-clause-next : goal.returns-then-has_prefix-clause-next
returns-then-has_prefix-clause-next g c =
    let come = has_come (g.N.Nand.flash c.args.nand.now) (g.N.Nand.flash c.entries.nand) c.entries.own c.entries.shown c.merge_next.new.newer c.merge_next.new.older c.in_ok-next.next c.in-Some.entry c.entries.invariant.reads c.in-Some.is c.in_ok-next.ensures.next c.entries.invariant.valued in
    c.entries.invariant.left ∙ first_with c.args.prefix.now _ _ c.in-Some.entry come.left (ap (λ key. starts_with nat_eq key c.args.prefix.now) (sym c.key.ensures) ∙ sym c.has_prefix.ensures ∙ c.if-has_prefix.true)

pub returns-then-has_prefix-clause-kept : goal.returns-then-has_prefix-clause-kept
returns-then-has_prefix-clause-kept g c =
    let come = has_come (g.N.Nand.flash c.args.nand.now) (g.N.Nand.flash c.entries.nand) c.entries.own c.entries.shown c.merge_next.new.newer c.merge_next.new.older c.in_ok-next.next c.in-Some.entry c.entries.invariant.reads c.in-Some.is c.in_ok-next.ensures.next c.entries.invariant.valued in
    come.kept

pub returns-then-has_prefix-clause-value : goal.returns-then-has_prefix-clause-value
returns-then-has_prefix-clause-value g c =
    let come = has_come (g.N.Nand.flash c.args.nand.now) (g.N.Nand.flash c.entries.nand) c.entries.own c.entries.shown c.merge_next.new.newer c.merge_next.new.older c.in_ok-next.next c.in-Some.entry c.entries.invariant.reads c.in-Some.is c.in_ok-next.ensures.next c.entries.invariant.valued in
    come.value

pub returns-then-has_prefix-clause-valued : goal.returns-then-has_prefix-clause-valued
returns-then-has_prefix-clause-valued g c =
    let come = has_come (g.N.Nand.flash c.args.nand.now) (g.N.Nand.flash c.entries.nand) c.entries.own c.entries.shown c.merge_next.new.newer c.merge_next.new.older c.in_ok-next.next c.in-Some.entry c.entries.invariant.reads c.in-Some.is c.in_ok-next.ensures.next c.entries.invariant.valued in
    come.valued

pub returns-then-is_behind-clause-next : goal.returns-then-is_behind-clause-next
returns-then-is_behind-clause-next g c =
    let come = has_come (g.N.Nand.flash c.args.nand.now) (g.N.Nand.flash c.entries.nand) c.entries.own c.entries.shown c.merge_next.new.newer c.merge_next.new.older c.in_ok-next.next c.in-Some.entry c.entries.invariant.reads c.in-Some.is c.in_ok-next.ensures.next c.entries.invariant.valued in
    c.entries.invariant.left
    ∙ past_none c.args.prefix.now _ _ c.in-Some.entry (left_rises c.entries.own c.entries.shown (g.N.Nand.flash c.args.nand.now).blocks (g.N.Nand.flash c.args.nand.now).image c.entries.invariant.stands) come.left (ap (is_past c.args.prefix.now) (sym c.key-in-entries.ensures) ∙ sym c.is_behind.ensures ∙ c.if-is_behind.true)

pub returns-then-is_behind-clause-valued : goal.returns-then-is_behind-clause-valued
returns-then-is_behind-clause-valued g c =
    let come = has_come (g.N.Nand.flash c.args.nand.now) (g.N.Nand.flash c.entries.nand) c.entries.own c.entries.shown c.merge_next.new.newer c.merge_next.new.older c.in_ok-next.next c.in-Some.entry c.entries.invariant.reads c.in-Some.is c.in_ok-next.ensures.next c.entries.invariant.valued in
    come.valued

pub entries-smaller-else-is_behind : goal.entries-smaller-else-is_behind
entries-smaller-else-is_behind g c =
    let come = has_come (g.N.Nand.flash c.args.nand.now) (g.N.Nand.flash c.entries.nand) c.entries.own c.entries.shown c.merge_next.new.newer c.merge_next.new.older c.in_ok-next.next c.in-Some.entry c.entries.invariant.reads c.in-Some.is c.in_ok-next.ensures.next c.entries.invariant.valued in
    fewer _ _ c.in-Some.entry come.left

pub entries-preserved-else-is_behind : goal.entries-preserved-else-is_behind
entries-preserved-else-is_behind g c =
    let come = has_come (g.N.Nand.flash c.args.nand.now) (g.N.Nand.flash c.entries.nand) c.entries.own c.entries.shown c.merge_next.new.newer c.merge_next.new.older c.in_ok-next.next c.in-Some.entry c.entries.invariant.reads c.in-Some.is c.in_ok-next.ensures.next c.entries.invariant.valued in
    record {
      stands = stands_before (g.N.Nand.flash c.args.nand.now) (g.N.Nand.flash c.entries.nand) c.merge_next.new.older c.entries.invariant.reads c.in_ok-next.ensures.older_stands;
      valued = come.valued;
      reads = reads_then_reads (g.N.Nand.flash c.args.nand.now) (g.N.Nand.flash c.entries.nand) (g.N.Nand.flash c.merge_next.new.nand) c.entries.invariant.reads c.in_ok-next.ensures.reads;
      left = c.entries.invariant.left ∙ first_without c.args.prefix.now _ _ c.in-Some.entry come.left (ap (λ key. starts_with nat_eq key c.args.prefix.now) (sym c.key.ensures) ∙ sym c.has_prefix.ensures ∙ c.if-has_prefix.false);
    }

pub entries-smaller-else-is_behind-2 : goal.entries-smaller-else-is_behind-2
entries-smaller-else-is_behind-2 g c =
    let come = has_come (g.N.Nand.flash c.args.nand.now) (g.N.Nand.flash c.entries.nand) c.entries.own c.entries.shown c.merge_next.new.newer c.merge_next.new.older c.in_ok-next.next c.in-Some.entry c.entries.invariant.reads c.in-Some.is c.in_ok-next.ensures.next c.entries.invariant.valued in
    fewer _ _ c.in-Some.entry come.left

pub entries-preserved-else-is_behind-2 : goal.entries-preserved-else-is_behind-2
entries-preserved-else-is_behind-2 g c =
    let come = has_come (g.N.Nand.flash c.args.nand.now) (g.N.Nand.flash c.entries.nand) c.entries.own c.entries.shown c.merge_next.new.newer c.merge_next.new.older c.in_ok-next.next c.in-Some.entry c.entries.invariant.reads c.in-Some.is c.in_ok-next.ensures.next c.entries.invariant.valued in
    record {
      stands = stands_before (g.N.Nand.flash c.args.nand.now) (g.N.Nand.flash c.entries.nand) c.merge_next.new.older c.entries.invariant.reads c.in_ok-next.ensures.older_stands;
      valued = come.valued;
      reads = reads_then_reads (g.N.Nand.flash c.args.nand.now) (g.N.Nand.flash c.entries.nand) (g.N.Nand.flash c.merge_next.new.nand) c.entries.invariant.reads c.in_ok-next.ensures.reads;
      left = c.entries.invariant.left ∙ first_without c.args.prefix.now _ _ c.in-Some.entry come.left (ap (λ key. starts_with nat_eq key c.args.prefix.now) (sym c.key.ensures) ∙ sym c.has_prefix.ensures ∙ c.if-has_prefix.false);
    }

pub entries-smaller : goal.entries-smaller
entries-smaller g c =
    let come = has_come (g.N.Nand.flash c.args.nand.now) (g.N.Nand.flash c.entries.nand) c.entries.own c.entries.shown c.merge_next.new.newer c.merge_next.new.older c.in_ok-next.next c.in-Some.entry c.entries.invariant.reads c.in-Some.is c.in_ok-next.ensures.next c.entries.invariant.valued in
    fewer _ _ c.in-Some.entry come.left

pub entries-preserved : goal.entries-preserved
entries-preserved g c =
    let come = has_come (g.N.Nand.flash c.args.nand.now) (g.N.Nand.flash c.entries.nand) c.entries.own c.entries.shown c.merge_next.new.newer c.merge_next.new.older c.in_ok-next.next c.in-Some.entry c.entries.invariant.reads c.in-Some.is c.in_ok-next.ensures.next c.entries.invariant.valued in
    record {
      stands = stands_before (g.N.Nand.flash c.args.nand.now) (g.N.Nand.flash c.entries.nand) c.merge_next.new.older c.entries.invariant.reads c.in_ok-next.ensures.older_stands;
      valued = come.valued;
      reads = reads_then_reads (g.N.Nand.flash c.args.nand.now) (g.N.Nand.flash c.entries.nand) (g.N.Nand.flash c.merge_next.new.nand) c.entries.invariant.reads c.in_ok-next.ensures.reads;
      left = c.entries.invariant.left ∙ first_without c.args.prefix.now _ _ c.in-Some.entry come.left (ap (λ key. starts_with nat_eq key c.args.prefix.now) (sym c.key.ensures) ∙ sym c.has_prefix.ensures ∙ c.if-has_prefix.false);
    }
