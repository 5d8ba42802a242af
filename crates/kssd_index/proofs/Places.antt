-- A new log and a new table have place for each group.
use Rattle.std.proofs.Common.{true, ◌≡◌, ℕ, ◌+◌, ◌*◌, ◌≤◌, List, [], ◌∷◌, length, ap, arith, inl, inr}
use Rattle.std.specs.List.{AllByRecursion}
use Rattle.std.proofs.lemmas.Bool.{cases_lt, and_from, le-leb}
use Rattle.kssd_entry.specs.declared.entry.Entry.{Entry}
use Rattle.kssd_entry.specs.Spelling.{entry_bytes, FitsEntry}
use Rattle.kssd_model.specs.Rising.{merged}
use Rattle.kssd_log.specs.Ring.{room_of}
use Rattle.kssd_log.specs.Append.{pages_more, pages_of}
use Rattle.kssd_log.proofs.Counting.{entry_bound, pages_same, pages_next, no_pages}
use Rattle.kssd_index.specs.declared.index.Index.{Index}
use Rattle.kssd_index.specs.Costs.{has_place_in}
use Rattle.kssd_root.proofs.Counting.{merged_few}

-- a page is closed with more than 3,700 bytes
few_pages : (used : ℕ) (entries : List Entry) → AllByRecursion FitsEntry entries → 3701 * pages_more used entries ≤ used + 396 * length entries
few_pages used [] fits = omega (arith, no_pages used)
few_pages used (e ∷ es) fits =
    let size = entry_bound e fits.0 in
    elim (cases_lt 4096 (used + length (entry_bytes e))) [
      | inl over ↦ omega (arith, pages_next used e es over, few_pages (length (entry_bytes e)) es fits.1, size.1)
      | inr within ↦ omega (arith, pages_same used e es within, few_pages (used + length (entry_bytes e)) es fits.1, size.1)
    ]

pub place_after : (index : Index) (entries : List Entry) → room_of index.ring ≡ 248 → index.table ≡ [] → length entries ≤ 640 → AllByRecursion FitsEntry entries → has_place_in index entries ≡ true
place_after index entries room table few fits =
    and_from _ _
    (le-leb (length (merged entries index.table)) 1024 (omega (arith, merged_few entries index.table, ap (λ (es : List Entry). length es) table, few)))
    (le-leb (pages_of entries) (room_of index.ring) (omega (arith, few_pages 4096 entries fits, few, room)))
