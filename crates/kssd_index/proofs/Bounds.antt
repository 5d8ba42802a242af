-- What an image tells of an index: its runs on level 0, and whether a group has place.
use Rattle.std.proofs.Common.{true, false, ◌≡◌, ◌∙◌, ℕ, ◌+◌, ◌-◌, ◌*◌, ◌/◌, ◌%◌, ◌≤◌, ◌<◌, Bool, cond, ◌&&◌, List, [], ◌∷◌, ◌++◌, length, map, Option, None, Some, is_some, refl, sym, ap, subst, arith}
use Rattle.std.specs.List.{All, AllByRecursion, count_by, list_all}
use Rattle.std.specs.Ordering.{is_lt}
use Rattle.std.specs.Prelude.{◌==◌}
use Rattle.std.proofs.lemmas.Bool.{and_parts, and_from, le-leb, leb-true}
use Rattle.std.proofs.lemmas.List.{length-map}
use Rattle.std.proofs.lemmas.List.Elements.{recursion_from_All}
use Rattle.std.proofs.lemmas.List.Sums.{sum_by-cons, sum_by-append}
use Rattle.kv_nand.specs.Flash.{Image}
use Rattle.kssd_entry.specs.declared.entry.Entry.{Entry}
use Rattle.kssd_entry.specs.declared.entry.Entry.TheVariants.{Gone}
use Rattle.kssd_entry.specs.Spelling.{key_of}
use Rattle.kssd_model.specs.declared.anchor.Anchor.{Anchor}
use Rattle.kssd_model.specs.declared.runs.RunInfo.{RunInfo}
use Rattle.kssd_model.specs.Groups.{turn_count}
use Rattle.kssd_model.specs.Rising.{key_cmp, has_key, is_rising, find_entry, merged, first_of}
use Rattle.kssd_model.proofs.RisingEntries.{is_rising-merged, find-merged}
use Rattle.kssd_image.specs.Stages.{the_anchor}
use Rattle.kssd_image.specs.Whole.{log_of}
use Rattle.kssd_frames.proofs.Lookups.{same_lists, key_is, merge_three, found_over, merge_alone}
use Rattle.kssd_levels.specs.declared.levels.Levels.{Levels}
use Rattle.kssd_levels.specs.Levels.{infos_of}
use Rattle.kssd_levels.specs.Runs.{infos_in}
use Rattle.kssd_levels.proofs.Named.{infos_join}
use Rattle.kssd_log.specs.Ring.{room_of, turns_for}
use Rattle.kssd_log.specs.Append.{pages_of}
use Rattle.kssd_root.specs.Standing.{table_of}
use Rattle.kssd_root.proofs.Anchored.{anchor_is}
use Rattle.kssd_root.proofs.Counting.{merged_grows}
use Rattle.kssd_index.specs.declared.index.Index.{Index}
use Rattle.kssd_index.specs.declared.parts.IndexParts.{IndexParts}
use Rattle.kssd_index.specs.Standing.{IsIndex, AreParts, index_table, older_entries, later_of}
use Rattle.kssd_index.specs.Costs.{zero_runs, runs_on_zero, zero_runs_in, logged_in, turns_in, blocks_filled, takes_group, group_cost_in, has_place_in, group_cost}
use Rattle.kssd_index.proofs.Later.{whole_table, table_rising}

-- ---- runs of level 0

-- one for a run of level 0
abbrev on_top : RunInfo → ℕ
on_top info = cond (info.level == 0) 1 0

on_zero : (runs : List RunInfo) → AllByRecursion (λ info. info.level ≡ 0) runs → runs_on_zero runs ≡ length runs
on_zero [] all = refl
on_zero (r ∷ rs) all = omega (arith, sum_by-cons on_top r rs, ap {B = ℕ} (λ (level : ℕ). cond (level == 0) 1 0) all.0, on_zero rs all.1)

not_on_zero : (level : ℕ) (runs : List RunInfo) → (level == 0) ≡ false → AllByRecursion (λ info. info.level ≡ level) runs → runs_on_zero runs ≡ 0
not_on_zero level [] other all = refl
not_on_zero level (r ∷ rs) other all = omega (arith, sum_by-cons on_top r rs, ap {B = ℕ} (λ (l : ℕ). cond (l == 0) 1 0) all.0, ap {B = ℕ} (λ (b : Bool). cond b 1 0) other, not_on_zero level rs other all.1)

on_zero_join : (xs ys : List RunInfo) → runs_on_zero (xs ++ ys) ≡ runs_on_zero xs + runs_on_zero ys
on_zero_join xs ys = sum_by-append on_top xs ys

levels_on_zero : (levels : Levels) → runs_on_zero (infos_of levels) ≡ length levels.zero
levels_on_zero levels =
    let top = on_zero (infos_in levels.zero) (recursion_from_All (λ (info : RunInfo). info.level ≡ 0) (infos_in levels.zero) levels.sound.zero_level) in
    let one = not_on_zero 1 (infos_in levels.one) refl (recursion_from_All (λ (info : RunInfo). info.level ≡ 1) (infos_in levels.one) levels.sound.one_level) in
    let base = not_on_zero 2 (infos_in levels.base) refl (recursion_from_All (λ (info : RunInfo). info.level ≡ 2) (infos_in levels.base) levels.sound.base_level) in
    let rest = on_zero_join (infos_in levels.one) (infos_in levels.base) in
    let all = on_zero_join (infos_in levels.zero) (infos_in levels.one ++ infos_in levels.base) in
    ap runs_on_zero (infos_join levels.zero levels.one levels.base) ∙ omega (arith, top, one, base, rest, all, length-map levels.zero Rattle.kssd_run.specs.Run.run_info)

anchor_in : (index : Index) (blocks : ℕ) (image : Image) → IsIndex index blocks image → the_anchor image ≡ index.root.anchor
anchor_in index blocks image h = anchor_is index.root.page index.root.anchor image h.root.anchored.newest

-- the image has as many runs on level 0 as the index
pub zero_runs_are : (index : Index) (blocks : ℕ) (image : Image) → IsIndex index blocks image → zero_runs index ≡ zero_runs_in image
zero_runs_are index blocks image h =
    sym (levels_on_zero index.root.levels) ∙ ap runs_on_zero h.root.runs.named ∙ ap (λ (a : Anchor). runs_on_zero a.runs) (sym (anchor_in index blocks image h))

-- and as its parts
pub zero_parts_are : (parts : IndexParts) (blocks : ℕ) (image : Image) → AreParts parts blocks image → length parts.levels.zero ≡ zero_runs_in image
zero_parts_are parts blocks image h =
    sym (levels_on_zero parts.levels) ∙ ap runs_on_zero h.runs.named ∙ ap (λ (a : Anchor). runs_on_zero a.runs) (sym (anchor_is parts.page parts.anchor image h.anchored.newest))

-- ---- the log's entries

-- the tables have the log's entries
pub logged_are : (index : Index) (blocks : ℕ) (image : Image) → IsIndex index blocks image → index_table index ≡ logged_in image
logged_are index blocks image h = whole_table index blocks image h ∙ ap (table_of image) (sym (anchor_in index blocks image h))

-- an entry's key alone
abbrev bare : Entry → Entry
bare e = Gone (key_of e)

bare_all : (p : Entry → Bool) (es : List Entry) → list_all p (map bare es) ≡ list_all (λ e. p (bare e)) es
bare_all p [] = refl
bare_all p (e ∷ es) = ap (λ b. p (bare e) && b) (bare_all p es)

bare_rises : (es : List Entry) → is_rising (map bare es) ≡ is_rising es
bare_rises [] = refl
bare_rises (e ∷ es) = λ i. bare_all (λ f. is_lt (key_cmp (key_of e) (key_of f))) es i && bare_rises es i

abbrev key_found : List ℕ → Option Entry → Option Entry
key_found key None = None
key_found key (Some e) = Some (Gone key)

bare_finds : (es : List Entry) (key : List ℕ) → find_entry (map bare es) key ≡ key_found key (find_entry es key)
bare_finds [] key = refl
bare_finds (e ∷ es) key = by (has_key key e) refl (bare_finds es key)
  where
    by : (b : Bool) → has_key key e ≡ b → find_entry (map bare es) key ≡ key_found key (find_entry es key) → cond b (Some (bare e)) (find_entry (map bare es) key) ≡ key_found key (cond b (Some e) (find_entry es key))
    by true is rest = ap (λ (k : List ℕ). Some (Gone k)) (key_is key e is)
    by false is rest = rest

either_found : (key : List ℕ) (a b : Option Entry) → key_found key (first_of a b) ≡ key_found key (first_of b a)
either_found key None None = refl
either_found key None (Some y) = refl
either_found key (Some x) None = refl
either_found key (Some x) (Some y) = refl

-- either of two lists over the other has as many keys
merged_either : (xs ys : List Entry) → is_rising xs ≡ true → is_rising ys ≡ true → length (merged xs ys) ≡ length (merged ys xs)
merged_either xs ys rx ry =
    let same : map bare (merged xs ys) ≡ map bare (merged ys xs) =
    same_lists _ _ (bare_rises (merged xs ys) ∙ is_rising-merged xs ys ry) (bare_rises (merged ys xs) ∙ is_rising-merged ys xs rx) (λ key.
    bare_finds (merged xs ys) key ∙ ap (key_found key) (find-merged xs ys key rx) ∙ either_found key (find_entry xs key) (find_entry ys key) ∙ sym (ap (key_found key) (find-merged ys xs key ry)) ∙ sym (bare_finds (merged ys xs) key)) in
    omega (arith, length-map (merged xs ys) bare, length-map (merged ys xs) bare, ap (λ (es : List Entry). length es) same)

-- entries over a table are no more than over that table over an older one
fewer_over : (entries table older : List Entry) → is_rising table ≡ true → is_rising older ≡ true → length (merged entries table) ≤ length (merged entries (merged table older))
fewer_over entries table older rt ro =
    let all = merged entries table in
    let rises = is_rising-merged entries table rt in
    omega (arith, ap (λ (es : List Entry). length es) (merge_three entries table older rt ro), merged_either all older rises ro, merged_grows older all)

-- ---- place for a group

-- where the image's log takes a group, the index has place for it
pub takes_place : (index : Index) (blocks : ℕ) (image : Image) (entries : List Entry) → IsIndex index blocks image → takes_group image entries ≡ true → has_place_in index entries ≡ true
takes_place index blocks image entries h takes =
    let both = and_parts _ _ takes in
    let anchor = anchor_in index blocks image h in
    let keys = leb-true (length (merged entries (logged_in image))) 1024 both.0 in
    let filled = leb-true (blocks_filled image (pages_of entries)) 8 both.1 in
    let same = ap (λ (es : List Entry). length (merged entries es)) (logged_are index blocks image h) in
    let fewer = fewer_over entries index.table (older_entries index.older) (table_rising index blocks image h) h.split.rising in
    let turns = ap (λ (a : Anchor). turn_count (log_of image a).pages) anchor in
    let end = ap (λ (a : Anchor). (log_of image a).end) anchor ∙ h.long.page in
    and_from _ _
    (le-leb (length (merged entries index.table)) 1024 (omega (arith, keys, same, fewer)))
    (le-leb (pages_of entries) (room_of index.ring) (room index.ring.page index.ring.blocks (pages_of entries) (turn_count (log_of image index.root.anchor).pages) (omega (arith, h.long.least))
    (subst (λ (p : ℕ × ℕ). 1 + p.0 + (p.1 % 32 + pages_of entries - 1) / 31 ≤ 8) (λ i. (turns i, end i)) filled)))
  where
    room : (page left pages turns : ℕ) → 8 ≤ turns + left → 1 + turns + (page % 32 + pages - 1) / 31 ≤ 8 → pages ≤ 31 * left - page % 32
    room page left pages turns least few = omega arith

-- and the group takes as many operations there
pub group_costs : (index : Index) (blocks : ℕ) (image : Image) (entries : List Entry) → IsIndex index blocks image → group_cost index entries ≡ group_cost_in image entries
group_costs index blocks image entries h =
    let end = ap (λ (a : Anchor). (log_of image a).end) (anchor_in index blocks image h) ∙ h.long.page in
    ap (λ (page : ℕ). pages_of entries + 2 * ((page % 32 + pages_of entries - 1) / 31)) (sym end)
