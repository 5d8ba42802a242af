-- When a call on a transaction is refused.
use Rattle.std.specs.Prelude.{◌≡◌, ℕ, Bool, not, ◌&&◌, ◌||◌, nat_le, is_some, List, length, Option, Some, None, if◌then◌else◌}
use Rattle.kssd_model.specs.Rising.{find_entry}
use Rattle.kssd_tx.specs.declared.fault.TxFault.{TxFault}
use Rattle.kssd_tx.specs.declared.fault.TxFault.TheVariants.{NoTx, Full, Memory}
use Rattle.kssd_tx.specs.Lists.{Transactions, list_of, changes_of, change_count}

-- the transaction isn't open
abbrev pub tx_refusal : Transactions → ℕ → Option TxFault
tx_refusal lists tx = if not (is_some (list_of lists tx)) then Some NoTx else None

-- the key is new in the transaction, and that has 640 keys or all have 1,280
abbrev pub is_full : Transactions → ℕ → List ℕ → Bool
is_full lists tx key =
    not (is_some (find_entry (changes_of lists tx) key)) && (nat_le 640 (length (changes_of lists tx)) || nat_le 1280 (change_count lists))

-- the transaction isn't open, or it is full for the key
abbrev pub set_refusal : Transactions → ℕ → List ℕ → Option TxFault
set_refusal lists tx key =
    if not (is_some (list_of lists tx)) then Some NoTx else (if is_full lists tx key then Some Full else None)

-- the refusal, where there is one; else memory ran out
abbrev pub IsRefused : Option TxFault → TxFault → Type 0
IsRefused None fault = fault ≡ Memory
IsRefused (Some refusal) fault = fault ≡ refusal
