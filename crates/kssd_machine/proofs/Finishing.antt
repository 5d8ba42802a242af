-- The end of a transaction.
use Rattle.std.proofs.Common.{◌≡◌, ◌⊎◌, ◌∙◌, ℕ, ◌/◌, ◌≤◌, Bool, true, false, cond, not, ◌&&◌, leb, ltb, nat_le, List, [], ◌∷◌, map, Option, Some, None, option_map, unwrap_or, is_some, inl, inr, refl, sym, ap, subst, arith}
use Rattle.std.specs.List.{AllByRecursion, list_all}
use Rattle.std.specs.FinMap as objects
use Rattle.std.proofs.lemmas.Bool.{and_parts, and_from, leb-true, le-leb, eqb-true, cases_lt}
use Rattle.kv_nand.specs.Flash.{Flash, Image}
use Rattle.kv_nand.specs.Flash as flash_words
use Rattle.kv_device.specs.Bytes.{bytes_cmp}
use Rattle.kv_device.specs.Machine.{Machine, view}
use Rattle.kv_device.specs.Objects.{page_count, seen_through}
use Rattle.kv_device.specs.declared.fault.DeviceFault.TheVariants as faults
use Rattle.kv_device.proofs.ViewLaws.{seen_through-none}
use Rattle.kv_device.specs.Calls as device_calls
use Rattle.kv_device.specs.Calls.{has_room, FallsEnding, EndDone, EndFault}
use Rattle.kssd_layout.specs.Numbers.{max_keys_in, max_pages_in, first_value_block_in}
use Rattle.kssd_entry.specs.declared.entry.Entry.{Entry}
use Rattle.kssd_entry.specs.declared.entry.Entry.TheVariants.{Put, At, Gone}
use Rattle.kssd_entry.specs.Spelling.{FitsEntry}
use Rattle.kssd_image.specs.ValuePages.{has_value, first_bytes}
use Rattle.kssd_image.specs.Stages as stages
use Rattle.kssd_image.specs.Stages.{shown_in, object_in, objects_in}
use Rattle.kssd_image.specs.Whole.{is_value_block, has_its_value, is_unnamed, AreValuesWhole, IsWhole}
use Rattle.kssd_frames.specs.Same.{as_counted}
use Rattle.kssd_frames.specs.Logging.{shown_after, IsRoomAfter}
use Rattle.kssd_frames.proofs.Changes.{after_is, block_left}
use Rattle.kssd_tx.specs.Lists.{Transactions, list_of, changes_of, with_list}
use Rattle.kssd_tx.specs.declared.fault.TxFault.TheVariants as tx_faults
use Rattle.kssd_tx.specs.Refusals.{tx_refusal}
use Rattle.kssd_machine.specs.Names.{names, times, times_pending, are_valued}
use Rattle.kssd_machine.specs.Machines.{pending_in, machine_of, no_lists, SameCounts, ArePendingSame}
use Rattle.kssd_machine.specs.Calling.{tx_fault}
use Rattle.kssd_machine.specs.Ending.{AreBlocksSame}
use Rattle.kssd_machine.proofs.Naming.{times_first, pending_first}
use Rattle.kssd_machine.proofs.Standing.{pending_same, sound}
use Rattle.kssd_machine.proofs.Transacting.{nothing_changed, with_list_is, first_is, ending_fallen}
use Rattle.kssd_machine.proofs.Seeing.{view_is}
use Rattle.kssd_machine.proofs.Sizing.{keys_after, after_valued, pages_after}

-- ---- pages in blocks of values

in_block : (blocks : ℕ) (image : Image) (key : List ℕ) (page size : ℕ) → has_its_value blocks image (At key page size) ≡ true → first_value_block_in blocks ≤ page / 32
in_block blocks image key page size valued =
    let both = and_parts (is_value_block blocks (page / 32)) (has_value key size (image page)) valued in
    leb-true _ _ (and_parts (leb (first_value_block_in blocks) (page / 32)) (ltb (page / 32) blocks) both.0).0

same_object : (blocks : ℕ) (old new : Image) (e : Entry) → AreBlocksSame blocks old new → has_its_value blocks old e ≡ true → object_in new e ≡ object_in old e
same_object blocks old new (Put key value) same valued = refl
same_object blocks old new (Gone key) same valued = refl
same_object blocks old new (At key page size) same valued = ap (λ s. (key, first_bytes size s)) (same page (in_block blocks old key page size valued))

same_objects : (blocks : ℕ) (old new : Image) (es : List Entry) → AreBlocksSame blocks old new → list_all (has_its_value blocks old) es ≡ true → map (object_in new) es ≡ map (object_in old) es
same_objects blocks old new [] same valued = refl
same_objects blocks old new (e ∷ es) same valued =
    let both = and_parts _ _ valued in
    λ i. same_object blocks old new e same both.0 i ∷ same_objects blocks old new es same both.1 i

still_valued : (blocks : ℕ) (old new : Image) (e : Entry) → AreBlocksSame blocks old new → has_its_value blocks old e ≡ true → has_its_value blocks new e ≡ true
still_valued blocks old new (Put key value) same valued = refl
still_valued blocks old new (Gone key) same valued = refl
still_valued blocks old new (At key page size) same valued = ap (λ s. is_value_block blocks (page / 32) && has_value key size s) (same page (in_block blocks old key page size valued)) ∙ valued

pub all_valued : (blocks : ℕ) (old new : Image) (es : List Entry) → AreBlocksSame blocks old new → list_all (has_its_value blocks old) es ≡ true → list_all (has_its_value blocks new) es ≡ true
all_valued blocks old new [] same valued = refl
all_valued blocks old new (e ∷ es) same valued =
    let both = and_parts _ _ valued in
    and_from _ _ (still_valued blocks old new e same both.0) (all_valued blocks old new es same both.1)

pub values_whole : (blocks : ℕ) (old new : Image) (entries : List Entry) → AreValuesWhole blocks old entries → AreBlocksSame blocks old new → AreValuesWhole blocks new entries
values_whole blocks old new entries whole same = record { pages = all_valued blocks old new entries same whole.pages; spare = whole.spare }

pub objects_same : (blocks : ℕ) (old new : Image) → AreValuesWhole blocks old (shown_in old) → AreBlocksSame blocks old new → shown_in new ≡ shown_in old → objects_in new ≡ objects_in old
unfolding objects_in
objects_same blocks old new whole same shown = ap objects.from_sorted (ap (map (object_in new)) shown ∙ same_objects blocks old new (shown_in old) same whole.pages)

objects_from : (image : Image) → objects_in image ≡ objects.from_sorted (map (object_in image) (shown_in image))
unfolding objects_in
objects_from image = refl

pub objects_after : (blocks : ℕ) (old new : Image) (entries : List Entry) → list_all (has_its_value blocks old) (shown_after old entries) ≡ true → AreBlocksSame blocks old new → shown_in new ≡ shown_after old entries
    → objects_in new ≡ seen_through (stages.changes_of old entries) (objects_in old)
objects_after blocks old new entries valued same shown =
    objects_from new
    ∙ ap objects.from_sorted (ap (map (object_in new)) shown ∙ same_objects blocks old new (shown_after old entries) same valued)
    ∙ after_is old entries

pub objects_either : (blocks : ℕ) (old new : Image) (entries : List Entry) → AreValuesWhole blocks old (shown_in old) → list_all (has_its_value blocks old) (shown_after old entries) ≡ true → AreBlocksSame blocks old new
    → (shown_in new ≡ shown_in old) ⊎ (shown_in new ≡ shown_after old entries) → (objects_in new ≡ objects_in old) ⊎ (objects_in new ≡ seen_through (stages.changes_of old entries) (objects_in old))
objects_either blocks old new entries whole valued same which = elim which [
  | inl before ↦ inl (objects_same blocks old new whole same before)
  | inr later ↦ inr (objects_after blocks old new entries valued same later)
]

pub whole_either : (blocks : ℕ) (old new : Image) (entries : List Entry) → AreValuesWhole blocks old (shown_in old) → AreValuesWhole blocks old (shown_after old entries) → AreBlocksSame blocks old new
    → (shown_in new ≡ shown_in old) ⊎ (shown_in new ≡ shown_after old entries) → AreValuesWhole blocks new (shown_in new)
whole_either blocks old new entries before after same which = elim which [
  | inl is ↦ subst (AreValuesWhole blocks new) (sym is) (values_whole blocks old new (shown_in old) before same)
  | inr is ↦ subst (AreValuesWhole blocks new) (sym is) (values_whole blocks old new (shown_after old entries) after same)
]

-- a page that valued entries name lies in a block of values
named_place : (blocks : ℕ) (image : Image) (es : List Entry) (page : ℕ) → list_all (has_its_value blocks image) es ≡ true → 1 ≤ times page es → first_value_block_in blocks ≤ page / 32
named_place blocks image [] page valued some = absurd (omega arith)
named_place blocks image (e ∷ es) page valued some =
    let both = and_parts _ _ valued in
    by (names page e) refl (named_place blocks image es page both.1)
  where
    first : (e : Entry) → names page e ≡ true → has_its_value blocks image e ≡ true → first_value_block_in blocks ≤ page / 32
    first (Put key value) is h = absurd cc
    first (Gone key) is h = absurd cc
    first (At key at size) is h = subst (λ (p : ℕ). first_value_block_in blocks ≤ p / 32) (eqb-true at page is) (in_block blocks image key at size h)

    by : (b : Bool) → names page e ≡ b → (1 ≤ times page es → first_value_block_in blocks ≤ page / 32) → first_value_block_in blocks ≤ page / 32
    by true is rest = first e is (and_parts _ _ valued).0
    by false is rest = rest (let none : cond (names page e) 1 0 ≡ 0 = ap {B = ℕ} (λ b. cond b 1 0) is in omega (arith, times_first page e es))

pending_place : (blocks : ℕ) (image : Image) (lists : Transactions) (page : ℕ) → are_valued blocks image lists ≡ true → 1 ≤ times_pending page lists → first_value_block_in blocks ≤ page / 32
pending_place blocks image [] page valued some = absurd (omega arith)
pending_place blocks image (t ∷ ts) page valued some =
    let both = and_parts (list_all (has_its_value blocks image) (unwrap_or t [])) (are_valued blocks image ts) valued in
    elim (cases_lt 0 (times page (unwrap_or t []))) [
      | inl here ↦ named_place blocks image (unwrap_or t []) page both.0 (omega arith)
      | inr none ↦ pending_place blocks image ts page both.1 (omega (arith, pending_first page t ts))
    ]

pub pending_kept : (blocks : ℕ) (old new : Image) (lists : Transactions) → are_valued blocks old lists ≡ true → AreBlocksSame blocks old new → ArePendingSame old new lists
pending_kept blocks old new lists valued same page some = ap as_counted (same page (pending_place blocks old lists page valued some))

-- ---- the end

abbrev room_by : Flash → ℕ → ℕ → Bool
room_by flash keys pages = nat_le keys (max_keys_in flash.blocks) && nat_le pages (max_pages_in flash.blocks)

pub room_is : (flash : Flash) (lists : Transactions) (tx keys pages : ℕ) (b : Bool) → keys ≡ objects.len (view (machine_of flash true lists) tx) → pages ≡ page_count (view (machine_of flash true lists) tx) → room_by flash keys pages ≡ b
    → has_room (machine_of flash true lists) (view (machine_of flash true lists) tx) ≡ b
room_is flash lists tx keys pages b k p room = sym (λ i. room_by flash (k i) (p i)) ∙ room

pub full : (flash : Flash) (lists : Transactions) (tx keys pages : ℕ) → tx_refusal lists tx ≡ None → keys ≡ objects.len (view (machine_of flash true lists) tx) → pages ≡ page_count (view (machine_of flash true lists) tx)
    → room_by flash keys pages ≡ false → EndFault (machine_of flash true lists) tx (faults.Full keys pages) (machine_of flash true lists)
full flash lists tx keys pages open_ k p room = ending_fallen flash lists tx (faults.Full keys pages) (machine_of flash true lists) open_ (room_is flash lists tx keys pages false k p room, k, p, refl)

pub has_room_by : (flash : Flash) (lists : Transactions) (tx keys pages : ℕ) → keys ≡ objects.len (view (machine_of flash true lists) tx) → pages ≡ page_count (view (machine_of flash true lists) tx)
    → room_by flash keys pages ≡ true → has_room (machine_of flash true lists) (view (machine_of flash true lists) tx) ≡ true
has_room_by flash lists tx keys pages k p room = room_is flash lists tx keys pages true k p room

pub group_room : (flash : Flash) (lists : Transactions) (tx block : ℕ) → flash_words.IsSound flash → IsWhole flash.blocks flash.image → 256 ≤ flash.blocks → are_valued flash.blocks flash.image lists ≡ true → AllByRecursion FitsEntry (changes_of lists tx)
    → has_room (machine_of flash true lists) (view (machine_of flash true lists) tx) ≡ true → is_value_block flash.blocks block ≡ true → is_unnamed (shown_after flash.image (changes_of lists tx)) block ≡ true
    → IsRoomAfter flash.blocks flash.image (changes_of lists tx)
group_room flash lists tx block f whole least valued fits room place free =
    let both = and_parts (nat_le (objects.len (view (machine_of flash true lists) tx)) (max_keys_in flash.blocks)) (nat_le (page_count (view (machine_of flash true lists) tx)) (max_pages_in flash.blocks)) room in
    let keys = leb-true _ _ both.0 in
    let pages = leb-true _ _ both.1 in
    record {
      keys = subst (λ n. n ≤ max_keys_in flash.blocks) (keys_after flash lists tx) keys;
      pages = subst (λ n. n ≤ max_pages_in flash.blocks) (pages_after flash lists tx f whole valued fits) pages;
      values = record {
        pages = after_valued flash.blocks flash.image lists tx whole.values.pages valued;
        spare = block_left flash.blocks (shown_after flash.image (changes_of lists tx)) block least place free;
      };
    }

allowed : (flash : Flash) (lists : Transactions) (tx : ℕ) → tx_refusal lists tx ≡ None → device_calls.first_of (machine_of flash true lists) tx None ≡ None
allowed flash lists tx none = first_is flash lists tx ∙ ap (option_map tx_fault) none

pub ends : (old new : Flash) (lists : Transactions) (tx : ℕ) → tx_refusal lists tx ≡ None → has_room (machine_of old true lists) (view (machine_of old true lists) tx) ≡ true → SameCounts old new
    → objects_in new.image ≡ view (machine_of old true lists) tx → ArePendingSame old.image new.image (with_list lists tx None) → EndDone (machine_of old true lists) tx (machine_of new true (with_list lists tx None))
ends old new lists tx open_ room counts objects_ pages =
    let closed = with_list_is old lists tx None None refl in
    let pending : pending_in new.image (with_list lists tx None) ≡ pending_in old.image (with_list lists tx None) = pending_same old.image new.image (with_list lists tx None) pages in
    record {
      allowed = allowed old lists tx open_;
      room = room;
      after = (λ i. record {
        up = true;
        stable = objects_ i;
        pending = pending i;
        cuts = counts.cuts i;
        faults = counts.faults i;
        most_cuts = counts.most_cuts i;
        most_faults = counts.most_faults i;
        room_keys = max_keys_in (counts.blocks i);
        room_pages = max_pages_in (counts.blocks i);
      }) ∙ ap (λ (m : Machine). record m { stable = view (machine_of old true lists) tx }) closed;
    }

none_changed : (flash : Flash) (lists : Transactions) (tx : ℕ) → list_of lists tx ≡ Some [] → objects_in flash.image ≡ view (machine_of flash true lists) tx
none_changed flash lists tx is = sym (
    view_is flash lists tx
    ∙ seen_through-none (stages.changes_of flash.image (changes_of lists tx)) (objects_in flash.image) (ap (λ o. objects.len (stages.changes_of flash.image (unwrap_or o []))) is ∙ ap objects.len (nothing_changed flash.image) ∙ objects.len-empty bytes_cmp (Option (List ℕ))))

pub idle : (flash : Flash) (lists : Transactions) (tx : ℕ) → flash_words.IsSound flash → IsWhole flash.blocks flash.image → list_of lists tx ≡ Some [] → EndDone (machine_of flash true lists) tx (machine_of flash true (with_list lists tx None))
idle flash lists tx f whole is =
    let same = none_changed flash lists tx is in
    let room : has_room (machine_of flash true lists) (objects_in flash.image) ≡ true =
    and_from _ _ (le-leb _ _ (sound flash false no_lists f whole refl).keys) (le-leb _ _ (sound flash false no_lists f whole refl).pages) in
    ends flash flash lists tx (ap (λ o. cond (not (is_some o)) (Some tx_faults.NoTx) None) is)
    (subst (λ o. has_room (machine_of flash true lists) o ≡ true) same room)
    (record { blocks = refl; cuts = refl; faults = refl; most_cuts = refl; most_faults = refl }) same (λ page some. refl)
