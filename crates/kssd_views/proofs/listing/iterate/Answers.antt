use Rattle.std.proofs.Common.{◌∙◌, map}
use Rattle.kv_device.specs.Objects.{pair_of}
use Rattle.kssd_views.proofs.Pairs.{left_valued, pairs_seen}
use Rattle.kssd_views.proofs.listing.iterate.Goals as goal

pub first_pairs-requires-clause-valued : goal.first_pairs-requires-clause-valued
first_pairs-requires-clause-valued g c =
    left_valued (g.N.Nand.flash c.args.nand.now) (g.N.Nand.flash c.stream_from.new.nand) c.args.changes.now c.args.tx.0 c.args.from.now c.new-own.result c.in_ok-shown.shown (record { own_is = c.new-own.ensures ∙ c.in_ok-entries.ensures.value; visible = c.in_ok-shown.ensures.visible; stands = c.in_ok-shown.ensures.stands })
    c.in_ok-shown.ensures.reads c.requires.pending c.requires.visible

pub returns-clause-pairs : goal.returns-clause-pairs
returns-clause-pairs g c =
    pairs_seen (g.N.Nand.flash c.args.nand.now) (g.N.Nand.flash c.stream_from.new.nand) c.args.changes.now c.args.tx.0 c.args.at_most c.args.from.now c.args.prefix.now c.new-own.result c.in_ok-shown.shown (map pair_of c.in_ok-pairs.pairs) (record { own_is = c.new-own.ensures ∙ c.in_ok-entries.ensures.value; visible = c.in_ok-shown.ensures.visible; stands = c.in_ok-shown.ensures.stands })
    c.in_ok-shown.ensures.reads c.requires.rising c.in_ok-pairs.ensures.pairs
