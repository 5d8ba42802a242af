-- Calls on the lists of open transactions as calls of the device.
use Rattle.std.specs.Prelude.{◌≡◌, ◌/◌, ℕ, Bool, true, false, not, ◌&&◌, nat_lt, is_some, List, [], length, option_map, Option, Some, None, if◌then◌else◌}
use Rattle.kv_nand.specs.Flash.{Flash, Image}
use Rattle.kv_device.specs.Machine as device
use Rattle.kv_device.specs.Machine.{Machine, is_open, with_change, view}
use Rattle.kv_device.specs.Calls as refusals
use Rattle.kv_device.specs.Calls.{first_of, is_tx_full, begin_refusal, delete_refusal, Falls, FallsReading, FallsEnding, BeginDone, BeginFault, ReadFault, SetDone, SetFault, DeleteDone, DeleteFault, EndFault, AbortDone, AbortFault}
use Rattle.kv_device.specs.declared.fault.DeviceFault.{DeviceFault}
use Rattle.kv_device.specs.declared.fault.DeviceFault.TheVariants as faults
use Rattle.kssd_entry.specs.declared.entry.Entry.{Entry}
use Rattle.kssd_entry.specs.declared.entry.Entry.TheVariants.{Put, At, Gone}
use Rattle.kssd_entry.specs.Spelling.{key_of}
use Rattle.kssd_model.specs.Rising.{put_entry}
use Rattle.kssd_image.specs.ValuePages.{HoldsValue}
use Rattle.kssd_image.specs.Stages as stages
use Rattle.kssd_image.specs.Stages.{change_in}
use Rattle.kssd_image.specs.Whole.{has_its_value}
use Rattle.kssd_values.specs.Places.{IsValueBlock}
use Rattle.kssd_tx.specs.declared.fault.TxFault.{TxFault}
use Rattle.kssd_tx.specs.declared.fault.TxFault.TheVariants as tx_faults
use Rattle.kssd_tx.specs.Lists.{Transactions, list_of, changes_of, open_count, free_number, change_count, with_list, all_repointed}
use Rattle.kssd_tx.specs.Refusals.{tx_refusal, set_refusal, is_full}
use Rattle.kssd_machine.specs.Names.{are_rising, are_valued}
use Rattle.kssd_machine.specs.Machines.{machine_of}

-- the device's fault where a call on the lists has one
abbrev pub tx_fault : TxFault → DeviceFault
tx_fault tx_faults.Busy = faults.Busy
tx_fault tx_faults.NoTx = faults.NoTx
tx_fault tx_faults.Full = faults.TxFull
tx_fault tx_faults.Memory = faults.Memory

-- with one more change in a transaction, instead of the older one of its key
abbrev pub with_entry : Transactions → ℕ → Entry → Transactions
with_entry lists tx entry = with_list lists tx (Some (put_entry (changes_of lists tx) entry))

-- whether a value needs a page, and its key is too long for one
abbrev pub is_misfit : List ℕ → List ℕ → Bool
is_misfit key value = nat_lt 128 (length value) && nat_lt 32 (length key)

-- why a value isn't set: its transaction isn't open, else it and its key have sizes that don't go together, else there is no room for one more changed key
abbrev pub value_refusal : Transactions → ℕ → List ℕ → List ℕ → Option TxFault → Option DeviceFault
value_refusal lists tx key value refusal =
    if not (is_some (list_of lists tx)) then Some faults.NoTx else (if is_misfit key value then Some faults.BadSize else option_map tx_fault refusal)

-- what transactions are open, and what they have changed
pub record TransactionsAgree : Type 0 where
  pub changes : (flash : Flash) (lists : Transactions) (tx : ℕ) → device.changes_of (machine_of flash true lists) tx ≡ option_map (stages.changes_of flash.image) (list_of lists tx)
  pub is_open : (flash : Flash) (lists : Transactions) (tx : ℕ) → is_open (machine_of flash true lists) tx ≡ is_some (list_of lists tx)
  pub free : (flash : Flash) (lists : Transactions) → device.free_number (machine_of flash true lists).pending ≡ free_number lists
  pub count : (flash : Flash) (lists : Transactions) → are_rising lists ≡ true → device.change_count (machine_of flash true lists).pending ≡ change_count lists
  pub begin : (flash : Flash) (lists : Transactions) (tx : ℕ) → free_number lists ≡ Some tx → BeginDone (machine_of flash true lists) tx (machine_of flash true (with_list lists tx (Some [])))
  pub abort : (flash : Flash) (lists : Transactions) (tx : ℕ) → tx_refusal lists tx ≡ None → AbortDone (machine_of flash true lists) tx (machine_of flash true (with_list lists tx None))
  pub change : (flash : Flash) (lists : Transactions) (tx : ℕ) (entry : Entry) → are_rising lists ≡ true
      → machine_of flash true (with_entry lists tx entry) ≡ with_change (machine_of flash true lists) tx (key_of entry) (change_in flash.image entry).1
  pub delete : (flash : Flash) (lists : Transactions) (tx : ℕ) (key : List ℕ) → are_rising lists ≡ true → set_refusal lists tx key ≡ None
      → DeleteDone (machine_of flash true lists) tx key (machine_of flash true (with_entry lists tx (Gone key)))
  pub set_inline : (flash : Flash) (lists : Transactions) (tx : ℕ) (key value : List ℕ) → are_rising lists ≡ true → set_refusal lists tx key ≡ None → is_misfit key value ≡ false
      → SetDone (machine_of flash true lists) tx key value (machine_of flash true (with_entry lists tx (Put key value)))
  pub set_page : (flash : Flash) (lists : Transactions) (tx page : ℕ) (key value : List ℕ) (old : Machine) → are_rising lists ≡ true → set_refusal lists tx key ≡ None → is_misfit key value ≡ false
      → HoldsValue key value (flash.image page) → machine_of flash true lists ≡ old → SetDone old tx key value (machine_of flash true (with_entry lists tx (At key page (length value))))
  pub rising : (lists : Transactions) (tx : ℕ) (entry : Entry) → are_rising lists ≡ true → are_rising (with_entry lists tx entry) ≡ true
  pub rising_begun : (lists : Transactions) (tx : ℕ) → are_rising lists ≡ true → are_rising (with_list lists tx (Some [])) ≡ true
  pub rising_closed : (lists : Transactions) (tx : ℕ) → are_rising lists ≡ true → are_rising (with_list lists tx None) ≡ true

-- refusals are the same, and change nothing
pub record RefusalsAgree : Type 0 where
  pub first : (flash : Flash) (lists : Transactions) (tx : ℕ) → first_of (machine_of flash true lists) tx None ≡ option_map tx_fault (tx_refusal lists tx)
  pub full : (flash : Flash) (lists : Transactions) (tx : ℕ) (key : List ℕ) → are_rising lists ≡ true → is_tx_full (machine_of flash true lists) tx key ≡ is_full lists tx key
  pub delete : (flash : Flash) (lists : Transactions) (tx : ℕ) (key : List ℕ) → are_rising lists ≡ true → delete_refusal (machine_of flash true lists) tx key ≡ option_map tx_fault (set_refusal lists tx key)
  pub set : (flash : Flash) (lists : Transactions) (tx : ℕ) (key value : List ℕ) → are_rising lists ≡ true → refusals.set_refusal (machine_of flash true lists) tx key value ≡ value_refusal lists tx key value (set_refusal lists tx key)
  pub busy : (flash : Flash) (lists : Transactions) → length lists ≡ 4 → open_count lists ≡ 4 → BeginFault (machine_of flash true lists) faults.Busy (machine_of flash true lists)
  pub aborting : (flash : Flash) (lists : Transactions) (tx : ℕ) (fault : TxFault) → tx_refusal lists tx ≡ Some fault → AbortFault (machine_of flash true lists) tx (tx_fault fault) (machine_of flash true lists)
  pub deleting : (flash : Flash) (lists : Transactions) (tx : ℕ) (key : List ℕ) (fault : TxFault) → are_rising lists ≡ true → set_refusal lists tx key ≡ Some fault → DeleteFault (machine_of flash true lists) tx key (tx_fault fault) (machine_of flash true lists)
  pub setting : (flash : Flash) (lists : Transactions) (tx : ℕ) (key value : List ℕ) (fault : DeviceFault) → are_rising lists ≡ true → value_refusal lists tx key value (set_refusal lists tx key) ≡ Some fault
      → SetFault (machine_of flash true lists) tx key value fault (machine_of flash true lists)
  pub reading : (flash : Flash) (lists : Transactions) (tx : ℕ) (fault : TxFault) → tx_refusal lists tx ≡ Some fault → ReadFault (machine_of flash true lists) tx (tx_fault fault) (machine_of flash true lists)
  pub ending : (flash : Flash) (lists : Transactions) (tx : ℕ) (fault : TxFault) → tx_refusal lists tx ≡ Some fault → EndFault (machine_of flash true lists) tx (tx_fault fault) (machine_of flash true lists)

-- a call that isn't refused answers an outside cause
pub record OutsideCausesAgree : Type 0 where
  pub deleting : (flash : Flash) (lists : Transactions) (tx : ℕ) (key : List ℕ) (fault : DeviceFault) (new : Machine) → are_rising lists ≡ true → set_refusal lists tx key ≡ None → FallsReading (machine_of flash true lists) fault new → DeleteFault (machine_of flash true lists) tx key fault new
  pub setting : (flash : Flash) (lists : Transactions) (tx : ℕ) (key value : List ℕ) (fault : DeviceFault) (new : Machine) → are_rising lists ≡ true → value_refusal lists tx key value (set_refusal lists tx key) ≡ None → Falls (machine_of flash true lists) fault new
      → SetFault (machine_of flash true lists) tx key value fault new
  pub reading : (flash : Flash) (lists : Transactions) (tx : ℕ) (fault : DeviceFault) (new : Machine) → tx_refusal lists tx ≡ None → FallsReading (machine_of flash true lists) fault new → ReadFault (machine_of flash true lists) tx fault new
  pub ending : (flash : Flash) (lists : Transactions) (tx : ℕ) (fault : DeviceFault) (new : Machine) → tx_refusal lists tx ≡ None → FallsEnding (view (machine_of flash true lists) tx) (machine_of flash true lists) fault new → EndFault (machine_of flash true lists) tx fault new

-- changes whose pages hold their values still do, whatever call is made
pub record ValuesStay : Type 0 where
  pub holds : (blocks : ℕ) (image : Image) (key value : List ℕ) (page : ℕ) → IsValueBlock blocks (page / 32) → HoldsValue key value (image page) → has_its_value blocks image (At key page (length value)) ≡ true
  pub begin : (blocks : ℕ) (image : Image) (lists : Transactions) (tx : ℕ) → are_valued blocks image lists ≡ true → are_valued blocks image (with_list lists tx (Some [])) ≡ true
  pub change : (blocks : ℕ) (image : Image) (lists : Transactions) (tx : ℕ) (entry : Entry) → are_valued blocks image lists ≡ true → has_its_value blocks image entry ≡ true → are_valued blocks image (with_entry lists tx entry) ≡ true
  pub close : (blocks : ℕ) (image : Image) (lists : Transactions) (tx : ℕ) → are_valued blocks image lists ≡ true → are_valued blocks image (with_list lists tx None) ≡ true
  pub repoint : (blocks : ℕ) (image : Image) (lists : Transactions) (page other : ℕ) → are_valued blocks image lists ≡ true → IsValueBlock blocks (other / 32) → image other ≡ image page → are_valued blocks image (all_repointed page other lists) ≡ true
  pub rising : (lists : Transactions) (page other : ℕ) → are_rising lists ≡ true → are_rising (all_repointed page other lists) ≡ true
