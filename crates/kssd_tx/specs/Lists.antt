-- The lists of changes of the open transactions.
use Rattle.std.specs.Prelude.{◌≡◌, ◌≤◌, ℕ, true, is_none, is_some, unwrap_or, List, [], length, map, count_by, sum_by, position, slice_get, slice_set, Option, option_map, ◌==◌, if◌then◌else◌}
use Rattle.std.specs.Option.{option_and_then}
use Rattle.kssd_entry.specs.declared.entry.Entry.{Entry}
use Rattle.kssd_entry.specs.declared.entry.Entry.TheVariants.{Put, At, Gone}
use Rattle.kssd_model.specs.Rising.{is_rising, find_entry}

-- the transactions by their numbers: the changes of each open one by rising keys, nothing where none is open
abbrev pub Transactions : Type 0
Transactions = List (Option (List Entry))

-- the changes of an open transaction
abbrev pub list_of : Transactions → ℕ → Option (List Entry)
list_of lists tx = option_and_then (λ t. t) (slice_get lists tx)

-- its changes, none where it isn't open
abbrev pub changes_of : Transactions → ℕ → List Entry
changes_of lists tx = unwrap_or (list_of lists tx) []

-- the change of a key in an open transaction
abbrev pub change_of : Transactions → ℕ → List ℕ → Option Entry
change_of lists tx key = option_and_then (λ list. find_entry list key) (list_of lists tx)

-- how many transactions are open
abbrev pub open_count : Transactions → ℕ
open_count lists = count_by is_some lists

-- the lowest number of which no transaction is open
abbrev pub free_number : Transactions → Option ℕ
free_number lists = position is_none lists

-- the changes of all transactions
unfoldable pub change_count : Transactions → ℕ
change_count lists = sum_by (λ t. length (unwrap_or t [])) lists

-- with these changes, or closed
abbrev pub with_list : Transactions → ℕ → Option (List Entry) → Transactions
with_list lists tx list = slice_set lists tx list

-- an entry that names a page names another instead, where it is this one
abbrev pub repointed : ℕ → ℕ → Entry → Entry
repointed page other (Put key value) = Put key value
repointed page other (At key at length_) = At key (if at == page then other else at) length_
repointed page other (Gone key) = Gone key

-- each entry that names a page names another instead
abbrev pub all_repointed : ℕ → ℕ → Transactions → Transactions
all_repointed page other lists = map (option_map (map (repointed page other))) lists

-- at most 640 changes by rising keys
pub record IsChangeList (list : List Entry) : Type 0 where
  pub rising : is_rising list ≡ true
  pub few : length list ≤ 640

-- four transactions, with at most 1,280 changes in all
pub record AreLists (lists : Transactions) : Type 0 where
  pub four : length lists ≡ 4
  pub few : change_count lists ≤ 1280
