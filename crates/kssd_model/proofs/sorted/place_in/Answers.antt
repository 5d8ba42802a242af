use Rattle.std.proofs.Common.{rules}
use Rattle.std.proofs.lemmas.List.Sorted.{IsPartitionPoint-from_clause}
use Rattle.kssd_model.specs.Rising.{is_below}
use Rattle.kssd_model.proofs.RisingEntries.{is_partitioned, place_from_point}
use Rattle.kssd_model.proofs.sorted.place_in.Goals as goal

pub returns : goal.returns
returns c =
    let parted = is_partitioned c.args.key.now c.args.entries.now c.requires in
    let point = IsPartitionPoint-from_clause (λ y. is_below c.args.key.now y) _ _ c.partition_point.ensures.partitioned parted (λ a r q k. search rules) in
    place_from_point c.args.key.now c.args.entries.now c.partition_point.result c.partition_point.ensures.bound point
