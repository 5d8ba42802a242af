-- Calls on the lists of open transactions.
use Rattle.std.proofs.Common.{◌≡◌, ◌∙◌, ℕ, zero, suc, ◌+◌, Bool, true, false, cond, not, ◌&&◌, ◌||◌, nat_le, nat_lt, List, [], ◌∷◌, length, map, Option, Some, None, option_map, option_and_then, unwrap_or, is_some, is_none, slice_get, slice_set, sum_by, refl, sym, ap, subst, arith}
use Rattle.std.specs.List.{prefix_len}
use Rattle.std.specs.FinMap as objects
use Rattle.std.specs.FinMap.Entries as entry_words
use Rattle.std.specs.Cmp.Lexicographic.{nat_list_cmp_total}
use Rattle.std.specs.declared.cmp.Ordering.{Ordering}
use Rattle.std.specs.declared.cmp.Ordering.TheVariants.{Less, Equal, Greater}
use Rattle.std.proofs.lemmas.Bool.{and_parts}
use Rattle.std.proofs.lemmas.List.{length-map, map-set}
use Rattle.std.proofs.lemmas.List.Sums.{sum_by-cons}
use Rattle.std.proofs.lemmas.Option.{slice_get-map, none-some}
use Rattle.kv_nand.specs.Flash.{Flash, Image}
use Rattle.kv_device.specs.Bytes.{bytes_cmp}
use Rattle.kv_device.specs.Objects.{Changes}
use Rattle.kv_device.specs.Machine as device
use Rattle.kv_device.specs.Machine.{Machine, is_open, with_change, view}
use Rattle.kv_device.specs.Calls as refusals
use Rattle.kv_device.specs.Calls.{first_of, is_tx_full, delete_refusal, begin_refusal, IsFault, Never, Falls, FallsReading, FallsEnding, BeginDone, BeginFault, SetDone, SetFault, DeleteDone, DeleteFault, ReadFault, EndFault, AbortDone, AbortFault}
use Rattle.kv_device.specs.declared.fault.DeviceFault.{DeviceFault}
use Rattle.kv_device.specs.declared.fault.DeviceFault.TheVariants as faults
use Rattle.kssd_entry.specs.declared.entry.Entry.{Entry}
use Rattle.kssd_entry.specs.declared.entry.Entry.TheVariants.{Put, At, Gone}
use Rattle.kssd_entry.specs.Spelling.{key_of}
use Rattle.kssd_model.specs.Rising as rising_words
use Rattle.kssd_model.specs.Rising.{key_cmp, is_rising, find_entry, put_entry}
use Rattle.kssd_model.proofs.RisingEntries.{is_rising-put}
use Rattle.kssd_image.specs.ValuePages.{HoldsValue}
use Rattle.kssd_image.specs.Stages as stages
use Rattle.kssd_image.specs.Stages.{change_in}
use Rattle.kssd_image.proofs.ValuePages.{holds_again}
use Rattle.kssd_frames.proofs.Changes as made
use Rattle.kssd_frames.proofs.Lookups.{same_key}
use Rattle.kssd_frames.proofs.ShownLaws.{keyed, find_is}
use Rattle.kssd_tx.specs.declared.fault.TxFault.{TxFault}
use Rattle.kssd_tx.specs.declared.fault.TxFault.TheVariants as tx_faults
use Rattle.kssd_tx.specs.Lists.{Transactions, list_of, changes_of, open_count, free_number, change_count, with_list}
use Rattle.kssd_tx.specs.Refusals.{tx_refusal, set_refusal, is_full}
use Rattle.kssd_tx.proofs.Counting.{is_some-option_map, not_all_open}
use Rattle.kssd_machine.specs.Names.{are_rising}
use Rattle.kssd_machine.specs.Machines.{pending_in, machine_of}
use Rattle.kssd_machine.specs.Calling.{tx_fault, with_entry, is_misfit, value_refusal}
use Rattle.kssd_machine.proofs.Naming.{all_set}

-- ---- what transactions are open

within : {A B : Type 0} (f : A → B) (o : Option (Option A)) → option_and_then (λ t. t) (option_map (option_map f) o) ≡ option_map f (option_and_then (λ t. t) o)
within f None = refl
within f (Some t) = refl

pub changes_are : (flash : Flash) (lists : Transactions) (tx : ℕ) → device.changes_of (machine_of flash true lists) tx ≡ option_map (stages.changes_of flash.image) (list_of lists tx)
changes_are flash lists tx =
    let f = stages.changes_of flash.image in
    ap (option_and_then (λ t. t)) (slice_get-map (option_map f) lists tx) ∙ within f (slice_get lists tx)

pub open_is : (flash : Flash) (lists : Transactions) (tx : ℕ) → is_open (machine_of flash true lists) tx ≡ is_some (list_of lists tx)
open_is flash lists tx = ap is_some (changes_are flash lists tx) ∙ is_some-option_map (stages.changes_of flash.image) (list_of lists tx)

prefix_same : {A B : Type 0} (f : A → B) (xs : List (Option A)) → prefix_len (λ x. not (is_none x)) (map (option_map f) xs) ≡ prefix_len (λ x. not (is_none x)) xs
prefix_same f [] = refl
prefix_same f (None ∷ xs) = refl
prefix_same f (Some x ∷ xs) = ap (λ n. 1 + n) (prefix_same f xs)

pub free_is : (flash : Flash) (lists : Transactions) → device.free_number (machine_of flash true lists).pending ≡ free_number lists
free_is flash lists =
    let f = option_map (stages.changes_of flash.image) in
    let same : length (map f lists) ≡ length lists = length-map lists f in
    λ i. cond (nat_lt (prefix_same (stages.changes_of flash.image) lists i) (same i)) (Some (prefix_same (stages.changes_of flash.image) lists i)) None

pub nothing_changed : (image : Image) → stages.changes_of image [] ≡ objects.empty
nothing_changed image = objects.empty_of_len (stages.changes_of image []) (made.change_count image [] refl)

pub changes_unwrapped : (image : Image) (o : Option (List Entry)) → unwrap_or (option_map (stages.changes_of image) o) objects.empty ≡ stages.changes_of image (unwrap_or o [])
changes_unwrapped image None = sym (nothing_changed image)
changes_unwrapped image (Some es) = refl

-- the changes of an open transaction are those of its list
pub list_changes : (flash : Flash) (lists : Transactions) (tx : ℕ) → unwrap_or (device.changes_of (machine_of flash true lists) tx) objects.empty ≡ stages.changes_of flash.image (changes_of lists tx)
list_changes flash lists tx = ap (λ o. unwrap_or o objects.empty) (changes_are flash lists tx) ∙ changes_unwrapped flash.image (list_of lists tx)

count_is : (image : Image) (lists : Transactions) → are_rising lists ≡ true → sum_by (λ (t : Option Changes). objects.len (unwrap_or t objects.empty)) (pending_in image lists) ≡ sum_by (λ (t : Option (List Entry)). length (unwrap_or t [])) lists
count_is image [] rising = refl
count_is image (t ∷ ts) rising =
    let both = and_parts (is_rising (unwrap_or t [])) (are_rising ts) rising in
    let here : objects.len (unwrap_or (option_map (stages.changes_of image) t) objects.empty) ≡ length (unwrap_or t []) = ap objects.len (changes_unwrapped image t) ∙ made.change_count image (unwrap_or t []) both.0 in
    let rest = count_is image ts both.1 in
    sum_by-cons (λ (x : Option Changes). objects.len (unwrap_or x objects.empty)) (option_map (stages.changes_of image) t) (pending_in image ts)
    ∙ (λ i. here i + rest i)
    ∙ sym (sum_by-cons (λ (x : Option (List Entry)). length (unwrap_or x [])) t ts)

pub counts_agree : (flash : Flash) (lists : Transactions) → are_rising lists ≡ true → device.change_count (machine_of flash true lists).pending ≡ change_count lists
unfolding device.change_count change_count
counts_agree flash lists rising = count_is flash.image lists rising

-- ---- the lists stay by rising keys

rising_slot : (lists : Transactions) (tx : ℕ) → are_rising lists ≡ true → is_rising (unwrap_or (option_and_then (λ t. t) (slice_get lists tx)) []) ≡ true
rising_slot [] tx rising = refl
rising_slot (None ∷ ts) zero rising = refl
rising_slot (Some es ∷ ts) zero rising = (and_parts (is_rising es) (are_rising ts) rising).0
rising_slot (t ∷ ts) (suc tx) rising = rising_slot ts tx (and_parts (is_rising (unwrap_or t [])) (are_rising ts) rising).1

pub rising_at : (lists : Transactions) (tx : ℕ) → are_rising lists ≡ true → is_rising (changes_of lists tx) ≡ true
rising_at = rising_slot

pub rising_with : (lists : Transactions) (tx : ℕ) (entry : Entry) → are_rising lists ≡ true → are_rising (with_entry lists tx entry) ≡ true
rising_with lists tx entry rising = all_set (λ t. is_rising (unwrap_or t [])) lists tx (Some (put_entry (changes_of lists tx) entry)) rising (is_rising-put (changes_of lists tx) entry (rising_at lists tx rising))

pub rising_begun : (lists : Transactions) (tx : ℕ) → are_rising lists ≡ true → are_rising (with_list lists tx (Some [])) ≡ true
rising_begun lists tx rising = all_set (λ t. is_rising (unwrap_or t [])) lists tx (Some []) rising refl

pub rising_closed : (lists : Transactions) (tx : ℕ) → are_rising lists ≡ true → are_rising (with_list lists tx None) ≡ true
rising_closed lists tx rising = all_set (λ t. is_rising (unwrap_or t [])) lists tx None rising refl

-- ---- calls that change them

-- another list in a transaction's place
pub with_list_is : (flash : Flash) (lists : Transactions) (tx : ℕ) (t : Option (List Entry)) (u : Option Changes) → option_map (stages.changes_of flash.image) t ≡ u
    → ◌≡◌ {A = Machine} (machine_of flash true (with_list lists tx t)) (record (machine_of flash true lists) { pending = slice_set (pending_in flash.image lists) tx u })
with_list_is flash lists tx t u same =
    let pending = map-set (option_map (stages.changes_of flash.image)) lists tx t ∙ ap (slice_set (pending_in flash.image lists) tx) same in
    λ i. record (machine_of flash true lists) { pending = pending i }

allowed_begin : (o p : Option ℕ) → p ≡ o → is_some o ≡ true → cond (is_some p) None (Some faults.Busy) ≡ None
allowed_begin o p same some = ap (λ b. cond b None (Some faults.Busy)) (ap is_some same ∙ some)

pub begins : (flash : Flash) (lists : Transactions) (tx : ℕ) → free_number lists ≡ Some tx → BeginDone (machine_of flash true lists) tx (machine_of flash true (with_list lists tx (Some [])))
begins flash lists tx free = record {
  allowed = allowed_begin (free_number lists) (device.free_number (machine_of flash true lists).pending) (free_is flash lists) (ap is_some free);
  lowest = free_is flash lists ∙ free;
  after = with_list_is flash lists tx (Some []) (Some objects.empty) (ap Some (nothing_changed flash.image));
}

-- the first refusal
no_tx : (open_ : Bool) → cond (not open_) (Some faults.NoTx) None ≡ option_map tx_fault (cond (not open_) (Some tx_faults.NoTx) None)
no_tx true = refl
no_tx false = refl

pub first_is : (flash : Flash) (lists : Transactions) (tx : ℕ) → first_of (machine_of flash true lists) tx None ≡ option_map tx_fault (tx_refusal lists tx)
first_is flash lists tx = ap (λ b. cond (not b) (Some faults.NoTx) None) (open_is flash lists tx) ∙ no_tx (is_some (list_of lists tx))

pub aborts : (flash : Flash) (lists : Transactions) (tx : ℕ) → tx_refusal lists tx ≡ None → AbortDone (machine_of flash true lists) tx (machine_of flash true (with_list lists tx None))
aborts flash lists tx allowed = record {
  allowed = first_is flash lists tx ∙ ap (option_map tx_fault) allowed;
  after = with_list_is flash lists tx None None refl;
}

-- an entry put among others, and among their changes
put_is : {X : Type 0} (f : Entry → X) (xs : List Entry) (e : Entry) → map (keyed f) (put_entry xs e) ≡ objects.put bytes_cmp (key_of e) (f e) (map (keyed f) xs)
put_is f [] e = refl
put_is {X} f (x ∷ xs) e = by (key_cmp (key_of e) (key_of x)) refl (put_is f xs e)
  where
    by : (o : Ordering) → key_cmp (key_of e) (key_of x) ≡ o → map (keyed f) (put_entry xs e) ≡ objects.put bytes_cmp (key_of e) (f e) (map (keyed f) xs)
        → map (keyed f) (rising_words.by_order o (e ∷ x ∷ xs) (e ∷ xs) (x ∷ put_entry xs e)) ≡ entry_words.by_order o ((key_of e, f e) ∷ map (keyed f) (x ∷ xs)) ((key_of x, f e) ∷ map (keyed f) xs) ((key_of x, f x) ∷ objects.put bytes_cmp (key_of e) (f e) (map (keyed f) xs))
    by Less h rest = refl
    by Equal h rest = ap (λ k. (k, f e) ∷ map (keyed f) xs) (same_key (key_of e) (key_of x) h)
    by Greater h rest = ap (λ es. (key_of x, f x) ∷ es) rest

pub changes_put : (image : Image) (xs : List Entry) (e : Entry) → is_rising xs ≡ true → stages.changes_of image (put_entry xs e) ≡ objects.insert (stages.changes_of image xs) (key_of e) (change_in image e).1
changes_put image xs e rising = objects.same_entries_map _ _ (
    made.each_change image (put_entry xs e) (is_rising-put xs e rising)
    ∙ put_is (λ x. (change_in image x).1) xs e
    ∙ ap (objects.put bytes_cmp (key_of e) (change_in image e).1) (sym (made.each_change image xs rising))
    ∙ sym (objects.entries-insert nat_list_cmp_total (stages.changes_of image xs) (key_of e) (change_in image e).1))

pub change_is : (flash : Flash) (lists : Transactions) (tx : ℕ) (entry : Entry) → are_rising lists ≡ true
    → machine_of flash true (with_entry lists tx entry) ≡ with_change (machine_of flash true lists) tx (key_of entry) (change_in flash.image entry).1
change_is flash lists tx entry rising =
    with_list_is flash lists tx (Some (put_entry (changes_of lists tx) entry)) (Some (objects.insert (unwrap_or (device.changes_of (machine_of flash true lists) tx) objects.empty) (key_of entry) (change_in flash.image entry).1))
    (ap Some (changes_put flash.image (changes_of lists tx) entry (rising_at lists tx rising) ∙ ap (λ m. objects.insert m (key_of entry) (change_in flash.image entry).1) (sym (list_changes flash lists tx))))

-- ---- room for one more change

found_is : (image : Image) (xs : List Entry) (key : List ℕ) → is_rising xs ≡ true → objects.get (stages.changes_of image xs) key ≡ option_map (λ x. (change_in image x).1) (find_entry xs key)
found_is image xs key rising = objects.get-entries (stages.changes_of image xs) key ∙ ap (objects.find bytes_cmp key) (made.each_change image xs rising) ∙ find_is (λ x. (change_in image x).1) xs key

pub full_is : (flash : Flash) (lists : Transactions) (tx : ℕ) (key : List ℕ) → are_rising lists ≡ true → is_tx_full (machine_of flash true lists) tx key ≡ is_full lists tx key
unfolding is_tx_full
full_is flash lists tx key rising =
    let list = changes_of lists tx in
    let own = rising_at lists tx rising in
    let same = list_changes flash lists tx in
    let found : is_some (objects.get (unwrap_or (device.changes_of (machine_of flash true lists) tx) objects.empty) key) ≡ is_some (find_entry list key) =
    ap (λ m. is_some (objects.get m key)) same ∙ ap is_some (found_is flash.image list key own) ∙ is_some-option_map (λ x. (change_in flash.image x).1) (find_entry list key) in
    let count : objects.len (unwrap_or (device.changes_of (machine_of flash true lists) tx) objects.empty) ≡ length list = ap objects.len same ∙ made.change_count flash.image list own in
    let total = counts_agree flash lists rising in
    λ i. not (found i) && (nat_le 640 (count i) || nat_le 1280 (total i))

by_two : (open_ full : Bool) → cond (not open_) (Some faults.NoTx) (cond full (Some faults.TxFull) None) ≡ option_map tx_fault (cond (not open_) (Some tx_faults.NoTx) (cond full (Some tx_faults.Full) None))
by_two true true = refl
by_two true false = refl
by_two false full = refl

by_three : (open_ misfit full : Bool) → cond (not open_) (Some faults.NoTx) (cond misfit (Some faults.BadSize) (cond full (Some faults.TxFull) None))
    ≡ cond (not open_) (Some faults.NoTx) (cond misfit (Some faults.BadSize) (option_map tx_fault (cond (not open_) (Some tx_faults.NoTx) (cond full (Some tx_faults.Full) None))))
by_three true true full = refl
by_three true false true = refl
by_three true false false = refl
by_three false misfit full = refl

pub delete_is : (flash : Flash) (lists : Transactions) (tx : ℕ) (key : List ℕ) → are_rising lists ≡ true → delete_refusal (machine_of flash true lists) tx key ≡ option_map tx_fault (set_refusal lists tx key)
delete_is flash lists tx key rising =
    let open_ = open_is flash lists tx in
    let full = full_is flash lists tx key rising in
    (λ i. cond (not (open_ i)) (Some faults.NoTx) (cond (full i) (Some faults.TxFull) None)) ∙ by_two (is_some (list_of lists tx)) (is_full lists tx key)

pub set_is : (flash : Flash) (lists : Transactions) (tx : ℕ) (key value : List ℕ) → are_rising lists ≡ true → refusals.set_refusal (machine_of flash true lists) tx key value ≡ value_refusal lists tx key value (set_refusal lists tx key)
set_is flash lists tx key value rising =
    let open_ = open_is flash lists tx in
    let full = full_is flash lists tx key rising in
    (λ i. cond (not (open_ i)) (Some faults.NoTx) (cond (is_misfit key value) (Some faults.BadSize) (cond (full i) (Some faults.TxFull) None)))
    ∙ by_three (is_some (list_of lists tx)) (is_misfit key value) (is_full lists tx key)

-- ---- the calls done

pub deletes : (flash : Flash) (lists : Transactions) (tx : ℕ) (key : List ℕ) → are_rising lists ≡ true → set_refusal lists tx key ≡ None → DeleteDone (machine_of flash true lists) tx key (machine_of flash true (with_entry lists tx (Gone key)))
deletes flash lists tx key rising allowed = record {
  allowed = delete_is flash lists tx key rising ∙ ap (option_map tx_fault) allowed;
  after = change_is flash lists tx (Gone key) rising;
}

not_refused : (open_ misfit : Bool) (refusal : Option TxFault) → refusal ≡ None → misfit ≡ false → (open_ ≡ false → refusal ≡ Some tx_faults.NoTx) → cond (not open_) (Some faults.NoTx) (cond misfit (Some faults.BadSize) (option_map tx_fault refusal)) ≡ None
not_refused true misfit refusal none fits closed = (λ i. cond (fits i) (Some faults.BadSize) (option_map tx_fault (none i)))
not_refused false misfit refusal none fits closed = absurd (none-some tx_faults.NoTx (sym none ∙ closed refl))

closed_refuses : (open_ full : Bool) → open_ ≡ false → cond (not open_) (Some tx_faults.NoTx) (cond full (Some tx_faults.Full) None) ≡ Some tx_faults.NoTx
closed_refuses open_ full h = ap (λ b. cond (not b) (Some tx_faults.NoTx) (cond full (Some tx_faults.Full) None)) h

pub set_allowed : (flash : Flash) (lists : Transactions) (tx : ℕ) (key value : List ℕ) → are_rising lists ≡ true → set_refusal lists tx key ≡ None → is_misfit key value ≡ false → refusals.set_refusal (machine_of flash true lists) tx key value ≡ None
set_allowed flash lists tx key value rising allowed fits =
    set_is flash lists tx key value rising
    ∙ not_refused (is_some (list_of lists tx)) (is_misfit key value) (set_refusal lists tx key) allowed fits (closed_refuses (is_some (list_of lists tx)) (is_full lists tx key))

pub sets_inline : (flash : Flash) (lists : Transactions) (tx : ℕ) (key value : List ℕ) → are_rising lists ≡ true → set_refusal lists tx key ≡ None → is_misfit key value ≡ false
    → SetDone (machine_of flash true lists) tx key value (machine_of flash true (with_entry lists tx (Put key value)))
sets_inline flash lists tx key value rising allowed fits = record {
  allowed = set_allowed flash lists tx key value rising allowed fits;
  after = change_is flash lists tx (Put key value) rising;
}

pub sets_page : (flash : Flash) (lists : Transactions) (tx page : ℕ) (key value : List ℕ) (old : Machine) → are_rising lists ≡ true → set_refusal lists tx key ≡ None → is_misfit key value ≡ false
    → HoldsValue key value (flash.image page) → machine_of flash true lists ≡ old → SetDone old tx key value (machine_of flash true (with_entry lists tx (At key page (length value))))
sets_page flash lists tx page key value old rising allowed fits holds same = subst (λ (m : Machine). SetDone m tx key value (machine_of flash true (with_entry lists tx (At key page (length value))))) same (record {
  allowed = set_allowed flash lists tx key value rising allowed fits;
  after = change_is flash lists tx (At key page (length value)) rising ∙ ap (λ v. with_change (machine_of flash true lists) tx key (Some v)) (holds_again key value (flash.image page) holds).1;
})

-- ---- the calls refused

pub busy_is : (flash : Flash) (lists : Transactions) → length lists ≡ 4 → open_count lists ≡ 4 → BeginFault (machine_of flash true lists) faults.Busy (machine_of flash true lists)
busy_is flash lists four all = by (free_number lists) refl
  where
    by : (o : Option ℕ) → free_number lists ≡ o → BeginFault (machine_of flash true lists) faults.Busy (machine_of flash true lists)
    by None free = subst (λ (o : Option ℕ). IsFault (cond (is_some o) None (Some faults.Busy)) Never (machine_of flash true lists) faults.Busy (machine_of flash true lists)) (sym (free_is flash lists ∙ free)) (refl, refl)
    by (Some n) free = absurd (let less = not_all_open lists n (sym free) in let t : ⊥ = omega arith in t)

refused : (outside : Machine → DeviceFault → Machine → Type 0) (m : Machine) (o : Option DeviceFault) (fault : DeviceFault) → o ≡ Some fault → IsFault o outside m fault m
refused outside m o fault is = subst (λ x. IsFault x outside m fault m) (sym is) (refl, refl)

pub aborting_refused : (flash : Flash) (lists : Transactions) (tx : ℕ) (fault : TxFault) → tx_refusal lists tx ≡ Some fault → AbortFault (machine_of flash true lists) tx (tx_fault fault) (machine_of flash true lists)
aborting_refused flash lists tx fault is = refused Never (machine_of flash true lists) (first_of (machine_of flash true lists) tx None) (tx_fault fault) (first_is flash lists tx ∙ ap (option_map tx_fault) is)

pub deleting_refused : (flash : Flash) (lists : Transactions) (tx : ℕ) (key : List ℕ) (fault : TxFault) → are_rising lists ≡ true → set_refusal lists tx key ≡ Some fault → DeleteFault (machine_of flash true lists) tx key (tx_fault fault) (machine_of flash true lists)
deleting_refused flash lists tx key fault rising is = refused FallsReading (machine_of flash true lists) (delete_refusal (machine_of flash true lists) tx key) (tx_fault fault) (delete_is flash lists tx key rising ∙ ap (option_map tx_fault) is)

pub setting_refused : (flash : Flash) (lists : Transactions) (tx : ℕ) (key value : List ℕ) (fault : DeviceFault) → are_rising lists ≡ true → value_refusal lists tx key value (set_refusal lists tx key) ≡ Some fault → SetFault (machine_of flash true lists) tx key value fault (machine_of flash true lists)
setting_refused flash lists tx key value fault rising is = refused Falls (machine_of flash true lists) (refusals.set_refusal (machine_of flash true lists) tx key value) fault (set_is flash lists tx key value rising ∙ is)

pub reading_refused : (flash : Flash) (lists : Transactions) (tx : ℕ) (fault : TxFault) → tx_refusal lists tx ≡ Some fault → ReadFault (machine_of flash true lists) tx (tx_fault fault) (machine_of flash true lists)
reading_refused flash lists tx fault is = refused FallsReading (machine_of flash true lists) (first_of (machine_of flash true lists) tx None) (tx_fault fault) (first_is flash lists tx ∙ ap (option_map tx_fault) is)

pub ending_refused : (flash : Flash) (lists : Transactions) (tx : ℕ) (fault : TxFault) → tx_refusal lists tx ≡ Some fault → EndFault (machine_of flash true lists) tx (tx_fault fault) (machine_of flash true lists)
ending_refused flash lists tx fault is = refused (FallsEnding (view (machine_of flash true lists) tx)) (machine_of flash true lists) (first_of (machine_of flash true lists) tx None) (tx_fault fault) (first_is flash lists tx ∙ ap (option_map tx_fault) is)

-- ---- outside causes

fallen : (outside : Machine → DeviceFault → Machine → Type 0) (m : Machine) (o : Option DeviceFault) (fault : DeviceFault) (new : Machine) → o ≡ None → outside m fault new → IsFault o outside m fault new
fallen outside m o fault new none h = subst (λ x. IsFault x outside m fault new) (sym none) h

pub deleting_fallen : (flash : Flash) (lists : Transactions) (tx : ℕ) (key : List ℕ) (fault : DeviceFault) (new : Machine) → are_rising lists ≡ true → set_refusal lists tx key ≡ None → FallsReading (machine_of flash true lists) fault new → DeleteFault (machine_of flash true lists) tx key fault new
deleting_fallen flash lists tx key fault new rising allowed h = fallen FallsReading (machine_of flash true lists) (delete_refusal (machine_of flash true lists) tx key) fault new (delete_is flash lists tx key rising ∙ ap (option_map tx_fault) allowed) h

pub setting_fallen : (flash : Flash) (lists : Transactions) (tx : ℕ) (key value : List ℕ) (fault : DeviceFault) (new : Machine) → are_rising lists ≡ true → value_refusal lists tx key value (set_refusal lists tx key) ≡ None → Falls (machine_of flash true lists) fault new
    → SetFault (machine_of flash true lists) tx key value fault new
setting_fallen flash lists tx key value fault new rising allowed h = fallen Falls (machine_of flash true lists) (refusals.set_refusal (machine_of flash true lists) tx key value) fault new (set_is flash lists tx key value rising ∙ allowed) h

pub reading_fallen : (flash : Flash) (lists : Transactions) (tx : ℕ) (fault : DeviceFault) (new : Machine) → tx_refusal lists tx ≡ None → FallsReading (machine_of flash true lists) fault new → ReadFault (machine_of flash true lists) tx fault new
reading_fallen flash lists tx fault new allowed h = fallen FallsReading (machine_of flash true lists) (first_of (machine_of flash true lists) tx None) fault new (first_is flash lists tx ∙ ap (option_map tx_fault) allowed) h

pub ending_fallen : (flash : Flash) (lists : Transactions) (tx : ℕ) (fault : DeviceFault) (new : Machine) → tx_refusal lists tx ≡ None → FallsEnding (view (machine_of flash true lists) tx) (machine_of flash true lists) fault new → EndFault (machine_of flash true lists) tx fault new
ending_fallen flash lists tx fault new allowed h = fallen (FallsEnding (view (machine_of flash true lists) tx)) (machine_of flash true lists) (first_of (machine_of flash true lists) tx None) fault new (first_is flash lists tx ∙ ap (option_map tx_fault) allowed) h
