use Rattle.std.proofs.Common.{◌≡◌, ◌==◌, ◌-◌, ◌^◌, ℕ, true, cond, List, [], take, ◌∙◌, sym, ap, arith}
use Rattle.std.specs.Option.{option_map}
use Rattle.std.proofs.lemmas.Bool.Decides.{nat_tests}
use Rattle.kv_device.specs.Objects.{pairs_from}
use Rattle.kfs_objects.specs.declared.records.Inode.{Inode}
use Rattle.kfs_objects.specs.Keys.{entry_key}
use Rattle.kfs_tx.specs.Tx.{seen}
use Rattle.kfs_core.specs.Listing.{pairs_below}
use Rattle.kfs_core.proofs.tree.pairs_below.Goals as goal

is_dir : (kind : ℕ) → kind ≡ 1 → (kind == 1) ≡ true
is_dir kind e = grind (arith, nat_tests)

pub returns-in_ok-pairs-in-Some-clause-gives : goal.returns-in_ok-pairs-in-Some-clause-gives
returns-in_ok-pairs-in-Some-clause-gives g c =
    let m = seen c.args.running.now.tx in
    let n = c.args.node in
    c.in_ok-pairs-in-Some.ensures.found ∙ ap (λ (k : List ℕ). take (2 ^ 32 - 1) (pairs_from m k k)) c.in_ok-prefix-in-Some.ensures
    ∙ sym (ap (λ o. pairs_below m n (option_map (λ (i : Inode). (i.kind, i.length)) o)) c.in-Some.is ∙ ap (λ b. cond b (take (2 ^ 32 - 1) (pairs_from m (entry_key n []) (entry_key n []))) []) (is_dir c.in-Some.it.kind c.if-it-ne1.false))
