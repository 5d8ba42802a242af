use Rattle.std.proofs.Common.{◌-◌, ◌^◌, ◌∙◌, ap, List, ℕ, map, drop}
use Rattle.kv_base.specs.declared.pairs.Pair.{Pair}
use Rattle.kv_device.specs.Objects.{pair_of}
use Rattle.kfs_tx.specs.Tx.{seen}
use Rattle.kfs_dir.proofs.Naming.{first_names}
use Rattle.kfs_dir.proofs.reading.list.Goals as goal

pub returns-clause-names : goal.returns-clause-names
returns-clause-names g c = first_names (seen c.args.running.now.tx) c.args.parent (2 ^ 32 - 1) c.in_ok-prefix.prefix c.in_ok-pairs.pairs c.in_ok-names.names c.in_ok-prefix.ensures c.in_ok-pairs.ensures.found (c.in_ok-names.ensures ∙ ap (λ (ps : List Pair). map (λ (e : List ℕ × List ℕ). drop 9 e.0) (map pair_of ps)) c.as_slice.ensures)
