-- What it means that a value may be set.
use Rattle.std.proofs.Common.{◌≡◌, ◌∙◌, ℕ, Bool, true, false, not, cond, List, Option, Some, None, option_map, is_some, refl, sym}
use Rattle.std.proofs.lemmas.Option.{none-some}
use Rattle.kv_nand.specs.Flash.{Flash}
use Rattle.kv_device.specs.Calls as refusals
use Rattle.kv_device.specs.declared.fault.DeviceFault.TheVariants as faults
use Rattle.kssd_tx.specs.declared.fault.TxFault.{TxFault}
use Rattle.kssd_tx.specs.declared.fault.TxFault.TheVariants as tx_faults
use Rattle.kssd_tx.specs.Lists.{Transactions, list_of}
use Rattle.kssd_tx.specs.Refusals.{set_refusal, is_full}
use Rattle.kssd_machine.specs.Calling.{tx_fault, is_misfit, value_refusal}
use Rattle.kssd_machine.proofs.Transacting.{set_is}
use Rattle.kssd_mounted.specs.declared.mounted.Mounted.{Mounted}
use Rattle.kssd_mounted.specs.Standing.{Stands, machine_at}

-- the transaction is open, the sizes go together, and there is room for the change
pub record MaySet (lists : Transactions) (tx : ℕ) (key value : List ℕ) : Type 0 where
  pub open_is : is_some (list_of lists tx) ≡ true
  pub fits : is_misfit key value ≡ false
  pub room : set_refusal lists tx key ≡ None

abbrev change_refusal : Bool → Bool → Option TxFault
change_refusal open_ full = cond (not open_) (Some tx_faults.NoTx) (cond full (Some tx_faults.Full) None)

parts : (open_ misfit full : Bool) → cond (not open_) (Some faults.NoTx) (cond misfit (Some faults.BadSize) (option_map tx_fault (change_refusal open_ full))) ≡ None → (open_ ≡ true) × (misfit ≡ false) × (change_refusal open_ full ≡ None)
parts true false false h = (refl, refl, refl)
parts true false true h = absurd (none-some faults.TxFull (sym h))
parts true true full h = absurd (none-some faults.BadSize (sym h))
parts false misfit full h = absurd (none-some faults.NoTx (sym h))

pub may_set : (m : Mounted) (flash : Flash) (tx : ℕ) (key value : List ℕ) → Stands m flash → refusals.set_refusal (machine_at flash m) tx key value ≡ None → MaySet m.changes tx key value
may_set m flash tx key value stands allowed =
    let none : value_refusal m.changes tx key value (set_refusal m.changes tx key) ≡ None = sym (set_is flash m.changes tx key value stands.rising) ∙ allowed in
    let all = parts (is_some (list_of m.changes tx)) (is_misfit key value) (is_full m.changes tx key) none in
    record { open_is = all.0; fits = all.1; room = all.2 }
