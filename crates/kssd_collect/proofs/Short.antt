-- The group of a collection's moves fits into one page.
use Rattle.std.proofs.Common.{◌≡◌, ◌∙◌, ℕ, suc, ◌+◌, ◌-◌, ◌*◌, ◌/◌, ◌%◌, ◌≤◌, true, cond, List, [], ◌∷◌, length, map, sum_by, refl, ap, arith}
use Rattle.std.specs.Prelude.{filter}
use Rattle.std.specs.List.{list_all}
use Rattle.std.proofs.lemmas.Bool.{and_parts, lt-ltb, le-ltb}
use Rattle.std.proofs.lemmas.List.{length-map}
use Rattle.std.proofs.lemmas.List.Sums.{sum_by-cons}
use Rattle.kv_nand.specs.Flash.{Image}
use Rattle.kssd_entry.specs.declared.entry.Entry.{Entry}
use Rattle.kssd_entry.specs.declared.entry.Entry.TheVariants.{Put, At, Gone}
use Rattle.kssd_entry.specs.Spelling.{size_of}
use Rattle.kssd_model.specs.Rising.{merged}
use Rattle.kssd_log.specs.Ring.{room_of}
use Rattle.kssd_log.specs.Append.{pages_more, pages_of}
use Rattle.kssd_image.specs.ValuePages.{has_value}
use Rattle.kssd_image.specs.Whole.{is_value_block, has_its_value}
use Rattle.kssd_image.proofs.ValuePages.{holds_from}
use Rattle.kssd_index.specs.declared.index.Index.{Index}
use Rattle.kssd_index.specs.Standing.{IsIndex}
use Rattle.kssd_index.specs.Costs.{group_cost}
use Rattle.kssd_values.specs.declared.values.Values.{Values}
use Rattle.kssd_values.specs.Blocks.{device_of, mark_at}
use Rattle.kssd_reclaim.specs.declared.copies.CopyOf.{CopyOf}
use Rattle.kssd_reclaim.specs.declared.reclaim.Reclaim.{Reclaim}
use Rattle.kssd_reclaim.specs.Sources.{is_visible, move_of}
use Rattle.kssd_reclaim.specs.Reclaim.{copies_of, moves_of}
use Rattle.kssd_machine.specs.Sizes.{replaced, keys_differ}
use Rattle.kssd_machine.specs.Collecting.{AreMoves}
use Rattle.kssd_machine.proofs.Grouping.{few_moves}
use Rattle.kssd_machine.proofs.Weighing.{merged_sum}

-- ---- pages

some_bytes : (e : Entry) → 1 ≤ size_of e
some_bytes (Put key value) = omega arith
some_bytes (At key page size) = omega arith
some_bytes (Gone key) = omega arith

no_more_pages : (used : ℕ) (es : List Entry) → used + sum_by size_of es ≤ 4096 → pages_more used es ≡ 0
unfolding pages_more
no_more_pages used [] few = refl
no_more_pages used (e ∷ es) few =
    let sum = sum_by-cons size_of e es in
    ap (λ b. cond b (suc (pages_more (size_of e) es)) (pages_more (used + size_of e) es)) (le-ltb 4096 (used + size_of e) (omega arith)) ∙ no_more_pages (used + size_of e) es (omega arith)

one_page : (es : List Entry) → sum_by size_of es ≤ 4096 → pages_of es ≤ 1
unfolding pages_more
one_page [] few = omega arith
one_page (e ∷ es) few =
    let sum = sum_by-cons size_of e es in
    let some = some_bytes e in
    let is : pages_more 4096 (e ∷ es) ≡ suc (pages_more (size_of e) es) = ap (λ b. cond b (suc (pages_more (size_of e) es)) (pages_more (4096 + size_of e) es)) (lt-ltb 4096 (4096 + size_of e) (omega arith)) in
    let rest = no_more_pages (size_of e) es (omega arith) in
    omega arith

-- ---- moves

short_move : (blocks : ℕ) (image : Image) (c : CopyOf) → has_its_value blocks image (move_of c) ≡ true → size_of (move_of c) ≤ 41
short_move blocks image c is =
    let held = (holds_from c.key c.length (image c.target) (and_parts (is_value_block blocks (c.target / 32)) (has_value c.key c.length (image c.target)) is).1).0 in
    let short = held.key_short in
    omega arith

short_moves : (blocks : ℕ) (image : Image) (cs : List CopyOf) → list_all (has_its_value blocks image) (map move_of cs) ≡ true → sum_by size_of (map move_of cs) ≤ 41 * length cs
short_moves blocks image [] all = omega arith
short_moves blocks image (c ∷ cs) all =
    let both = and_parts (has_its_value blocks image (move_of c)) (list_all (has_its_value blocks image) (map move_of cs)) all in
    let first = short_move blocks image c both.0 in
    let rest = short_moves blocks image cs both.1 in
    let sum = sum_by-cons size_of (move_of c) (map move_of cs) in
    omega arith

none_replaced : (es : List Entry) → replaced [] es ≡ []
none_replaced [] = refl
none_replaced (e ∷ es) = none_replaced es

same_bytes : (moves : List Entry) → keys_differ moves ≡ true → sum_by size_of (merged moves []) ≡ sum_by size_of moves
same_bytes moves differ =
    let sum = merged_sum size_of moves [] refl differ in
    let none = ap (sum_by size_of) (none_replaced moves) in
    omega arith

-- ---- the group

pub group_in_a_page : (r : Reclaim) (v : Values) (image : Image) → AreMoves r v image (moves_of r v) → length (copies_of r) ≤ 31 → pages_of (merged (moves_of r v) []) ≤ 1
group_in_a_page r v image are few =
    let cs = filter (λ copy. is_visible (mark_at v copy.source)) (copies_of r) in
    let bytes = short_moves (device_of v) image cs are.valued in
    let count = few_moves r v in
    let same = length-map cs move_of in
    let sum = same_bytes (moves_of r v) are.differ in
    one_page (merged (moves_of r v) []) (omega arith)

-- a group of one page may take a turn, but behind a turn it takes none
pub page_with_turn : (index : Index) (es : List Entry) → pages_of es ≤ 1 → group_cost index es ≤ 3
page_with_turn index es pages = omega arith

pub page_behind_turn : (index : Index) (blocks : ℕ) (image : Image) (es : List Entry) → IsIndex index blocks image → room_of index.ring ≡ 248 → pages_of es ≤ 1 → group_cost index es ≤ 1
page_behind_turn index blocks image es stands room pages =
    let eight = stands.log.blocks in
    let first : index.ring.page % 32 ≡ 0 = omega (arith, room, eight) in
    let none : (index.ring.page % 32 + pages_of es - 1) / 31 ≡ 0 = omega (arith, first, pages) in
    omega (arith, pages, none)

pub group_is_short : (index : Index) (r : Reclaim) (v : Values) (image : Image) → AreMoves r v image (moves_of r v) → length (copies_of r) ≤ 31 → group_cost index (merged (moves_of r v) []) ≤ 3
group_is_short index r v image are few = page_with_turn index (merged (moves_of r v) []) (group_in_a_page r v image are few)
