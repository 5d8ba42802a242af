use Rattle.std.proofs.Common.{◌≡◌, ◌∙◌, ℕ, List, sym, subst, rules}
use Rattle.std.specs.Ordering.{is_le}
use Rattle.std.proofs.lemmas.List.Sorted.{IsPartitionPoint-from_clause}
use Rattle.kssd_model.specs.Rising.{key_cmp}
use Rattle.kssd_run.specs.Index.{RisingKeys, IsPageOfKey}
use Rattle.kssd_run.proofs.Keys.{keys_partitioned, page_from_point}
use Rattle.kssd_run.proofs.index.FirstKeys.pages_upto.Goals as goal

pub returns : goal.returns
returns c =
    let same : c.deref.result.now ≡ c.args.self.now = c.deref.ensures.value ∙ c.self.view_is in
    let parted = keys_partitioned c.deref.result.now c.args.key.now (subst RisingKeys (sym same) c.requires) in
    let point = IsPartitionPoint-from_clause (λ y. is_le (key_cmp y c.args.key.now)) _ _ c.partition_point.ensures.partitioned parted (λ a r q k. search rules) in
    subst (λ (xs : List (List ℕ)). IsPageOfKey xs c.args.key.now c.partition_point.result) same (page_from_point c.deref.result.now c.args.key.now c.partition_point.result c.partition_point.ensures.bound point)
