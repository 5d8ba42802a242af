use Rattle.kssd_model.proofs.ReadingOn.{reads_then_reads}
use Rattle.kssd_views.proofs.Pairing.{stands_before}
use Rattle.kssd_views.proofs.Pairs.{valued_now, valued_before, few_more, left_more}
use Rattle.kssd_views.proofs.listing.first_pairs.Goals as goal

pub next_pair-requires-clause-valued : goal.next_pair-requires-clause-valued
next_pair-requires-clause-valued g c = valued_now (g.N.Nand.flash c.args.nand.now) (g.N.Nand.flash c.pairs.nand) c.pairs.own c.pairs.shown c.pairs.invariant.reads c.pairs.invariant.valued

pub pairs-preserved : goal.pairs-preserved
pairs-preserved g c = record {
  stands = stands_before (g.N.Nand.flash c.args.nand.now) (g.N.Nand.flash c.pairs.nand) c.next_pair.new.shown c.pairs.invariant.reads c.in_ok-pair.ensures.stands;
  valued = valued_before (g.N.Nand.flash c.args.nand.now) (g.N.Nand.flash c.pairs.nand) c.next_pair.new.own c.next_pair.new.shown c.pairs.invariant.reads c.in_ok-pair.ensures.valued;
  reads = reads_then_reads (g.N.Nand.flash c.args.nand.now) (g.N.Nand.flash c.pairs.nand) (g.N.Nand.flash c.next_pair.new.nand) c.pairs.invariant.reads c.in_ok-pair.ensures.reads;
  few = few_more c.pairs.found c.push.new.self c.in-Some.pair c.args.at_most c.len.result c.in_ok-push-in-Some.ensures.ok c.len.ensures c.pairs-test.true;
  left = left_more (g.N.Nand.flash c.args.nand.now) (g.N.Nand.flash c.pairs.nand) c.args.prefix.now c.pairs.own c.next_pair.new.own c.pairs.shown c.next_pair.new.shown _ c.pairs.found c.push.new.self c.in-Some.pair c.in_ok-pair.field-0 c.pairs.invariant.reads c.pairs.invariant.left c.in_ok-pair.ensures.next c.in-Some.is c.in_ok-push-in-Some.ensures.ok;
}
