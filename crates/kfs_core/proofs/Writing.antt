-- A call's write, from what its parts ensure.
use Rattle.std.proofs.Common.{◌≡◌, ℕ, ◌≤◌, ◌+◌, ◌-◌, sym, ◌∙◌, ap, subst, arith, inr, List, length, take, Ok, Err}
use Rattle.std.proofs.lemmas.List.{length-take-le}
use Rattle.kv_device.specs.declared.fault.DeviceFault.{DeviceFault}
use Rattle.kfs_tx.specs.Tx.{Tx, seen}
use Rattle.kfs_core.specs.declared.fault.CoreFault.TheVariants.{Device}
use Rattle.kfs_core.specs.declared.room.Space.{Space}
use Rattle.kfs_core.specs.Core.{KfsState, tx_in, Stays}
use Rattle.kfs_core.specs.Files.{write_in, Wrote, WriteFault, WriteDoes}
use Rattle.kfs_core.specs.Room.{space_in, fits_in, chunks_for, grown}

-- no more fit than there are
pub fits_few : (space : Space) (size offset : ℕ) (given : List ℕ) (some : ℕ) → some ≡ fits_in space size offset (length given) → some ≤ length given
fits_few space size offset given some is = omega arith

module _ (old new : KfsState) (first tx : Tx) (space : Space) (node offset size some : ℕ) (given : List ℕ) (space_is : space ≡ space_in old) (first_is : first ≡ tx_in old) (leaves : tx ≡ first)
    (judged : write_in (seen first) space node offset (length given) ≡ Ok size) (some_is : some ≡ fits_in space size offset (length given)) where
  run_is : tx ≡ tx_in old
  run_is = leaves ∙ first_is

  judged_in : write_in (seen (tx_in old)) (space_in old) node offset (length given) ≡ Ok size
  judged_in = (λ i. write_in (seen (sym first_is i)) (sym space_is i) node offset (length given)) ∙ judged

  some_in : some ≡ fits_in (space_in old) size offset (length given)
  some_in = some_is ∙ (λ i. fits_in (space_is i) size offset (length given))

  pub wrote_done : (whole before after : ℕ) → Wrote tx node size offset (take some given) (tx_in new) → whole ≡ grown size offset (length (take some given)) → after ≡ chunks_for whole → before ≡ chunks_for size
      → new ≡ record old { running = new.running; charge = old.charge + (after - before); chunks = old.chunks + (after - before) }
      → WriteDoes old node offset given (Ok some) new
  wrote_done whole before after wrote whole_is after_is before_is same =
      let few : length (take some given) ≡ some = length-take-le some given (fits_few space size offset given some some_is) in
      let more : after - before ≡ chunks_for (grown size offset some) - chunks_for size = (λ i. (after_is ∙ ap chunks_for (whole_is ∙ ap (grown size offset) few)) i - before_is i) in (
        size,
        judged_in,
        some_in,
        subst (λ (r : Tx). Wrote r node size offset (take some given) (tx_in new)) run_is wrote,
        same ∙ (λ i. record old { running = new.running; charge = old.charge + more i; chunks = old.chunks + more i }),
      )

  pub write_failed : (fault : DeviceFault) → WriteFault tx node size offset (take some given) fault (tx_in new).machine → Stays old new → WriteDoes old node offset given (Err (Device fault)) new
  write_failed fault failed stays = (
    stays,
    inr (
      size,
      judged_in,
      subst (λ (n : ℕ). WriteFault (tx_in old) node size offset (take n given) fault (tx_in new).machine) some_in
          (subst (λ (r : Tx). WriteFault r node size offset (take some given) fault (tx_in new).machine) run_is failed),
    ),
  )
