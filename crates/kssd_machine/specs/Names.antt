-- Which pages entries name for their values, and how often.
use Rattle.std.specs.Prelude.{◌==◌, ℕ, Bool, false, List, [], count_by, sum_by, unwrap_or}
use Rattle.std.specs.List.{list_all}
use Rattle.kv_nand.specs.Flash.{Image}
use Rattle.kssd_entry.specs.declared.entry.Entry.{Entry}
use Rattle.kssd_entry.specs.declared.entry.Entry.TheVariants.{Put, At, Gone}
use Rattle.kssd_model.specs.Rising.{is_rising}
use Rattle.kssd_image.specs.Whole.{has_its_value}
use Rattle.kssd_tx.specs.Lists.{Transactions}

-- whether an entry names this page
abbrev pub names : ℕ → Entry → Bool
names page (Put key value) = false
names page (At key at size) = at == page
names page (Gone key) = false

-- how often entries name a page
abbrev pub times : ℕ → List Entry → ℕ
times page entries = count_by (names page) entries

-- how often the changes of open transactions name a page
abbrev pub times_pending : ℕ → Transactions → ℕ
times_pending page lists = sum_by (λ t. times page (unwrap_or t [])) lists

-- whether the changes of each open transaction stand by rising keys
abbrev pub are_rising : Transactions → Bool
are_rising lists = list_all (λ t. is_rising (unwrap_or t [])) lists

-- whether each of these changes that names a page names that of its value
abbrev pub are_valued : ℕ → Image → Transactions → Bool
are_valued blocks image lists = list_all (λ t. list_all (has_its_value blocks image) (unwrap_or t [])) lists
