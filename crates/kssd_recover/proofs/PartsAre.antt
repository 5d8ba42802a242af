-- What was read of a sound image are its parts.
use Rattle.std.proofs.Common.{◌≡◌, ◌∙◌, ℕ, ◌/◌, ◌≤◌, ◌↔◌, Bool, true, false, not, ◌&&◌, ◌||◌, Option, Some, None, refl, List, [], ◌∷◌, length, sym, ap, subst, arith, inl, inr}
use Rattle.std.specs.Prelude.{IsTrue, ◌==◌}
use Rattle.std.specs.List.{list_any, list_all}
use Rattle.std.proofs.lemmas.Bool.{and_parts, and_from, or_parts, or_cases, leb-true, ltb-true, eq-eqb}
use Rattle.std.proofs.lemmas.Bool.Decides.{nat_tests}
use Rattle.kv_nand.specs.Flash.{Image}
use Rattle.kssd_entry.specs.declared.entry.Entry.{Entry}
use Rattle.kssd_entry.specs.declared.entry.Entry.TheVariants.{Put, At, Gone}
use Rattle.kssd_model.specs.declared.anchor.Anchor.{Anchor}
use Rattle.kssd_model.specs.declared.anchor.Found.{Found}
use Rattle.kssd_model.specs.Anchors.{newest_in}
use Rattle.kssd_model.specs.Rising.{merged}
use Rattle.kssd_image.specs.Stages.{anchor_of, the_anchor, runs_map, without_marks, merged_by, shown_by, shown_in}
use Rattle.kssd_image.specs.Whole.{page_named, pages_named, has_its_value, is_value_block, Sound}
use Rattle.kssd_image.specs.Damages.{lacks_value}
use Rattle.kssd_frames.proofs.ShownLaws.{objects_len}
use Rattle.kssd_layout.specs.declared.layout.Layout.{Layout}
use Rattle.kssd_levels.specs.Levels.{levels_map}
use Rattle.kssd_values.specs.declared.values.Values.{Values}
use Rattle.kssd_values.specs.Places.{IsValueBlock}
use Rattle.kssd_recover.specs.declared.index.Index.{Index}
use Rattle.kssd_recover.specs.declared.walking.Visible.{Visible}
use Rattle.kssd_recover.specs.Log.{IsErasedBlock}
use Rattle.kssd_recover.specs.Walk.{IsLeastOf, within_four_bytes, IsSeen}
use Rattle.kssd_recover.specs.Limits.{AreVisible}
use Rattle.kssd_recover.proofs.Walked.{same_least}
use Rattle.kssd_recover.specs.Parts.{IsIndexRead, HasVisible, AreParts}

-- ---- the visible entries

-- the index without its deletion marks is what the anchor shows
shown_is : (blocks : ℕ) (image : Image) (index : Index) → IsIndexRead blocks image index → without_marks (merged index.log.entries (levels_map index.levels image)) ≡ shown_by image index.found.anchor
unfolding shown_by merged_by
shown_is blocks image index read = λ i. without_marks (merged (read.log.entries i) (runs_map image (read.levels.infos_are i)))

-- the newest anchor shows what the image does
shown_here : (image : Image) (found : Found) → newest_in image ≡ Some found → shown_by image found.anchor ≡ shown_in image
unfolding shown_in the_anchor
shown_here image found newest = ap (λ (o : Option Found). shown_by image (anchor_of o)) (sym newest)

-- deletion marks name no page
lacks_shown : (blocks : ℕ) (image : Image) (entries : List Entry) (page : ℕ) → lacks_value blocks image (without_marks entries) page ≡ lacks_value blocks image entries page
lacks_shown blocks image [] page = refl
lacks_shown blocks image (Put key value ∷ es) page = lacks_shown blocks image es page
lacks_shown blocks image (Gone key ∷ es) page = lacks_shown blocks image es page
lacks_shown blocks image (At key p size ∷ es) page = ap (λ b. ((p == page) || false) && not (has_its_value blocks image (At key p size)) || b) (lacks_shown blocks image es page)

-- the least page that isn't a value is so among the visible entries
pub bad_is : (blocks : ℕ) (image : Image) (index : Index) (bad : Option ℕ) → IsIndexRead blocks image index → IsLeastOf (lacks_value blocks image (merged index.log.entries (levels_map index.levels image))) bad → IsLeastOf (lacks_value blocks image (shown_by image index.found.anchor)) bad
bad_is blocks image index bad read least =
    let all = merged index.log.entries (levels_map index.levels image) in
    subst (λ (xs : List Entry). IsLeastOf (lacks_value blocks image xs) bad) (shown_is blocks image index read) (same_least (lacks_value blocks image all) (lacks_value blocks image (without_marks all)) bad (lacks_shown blocks image all) least)

-- where no page is bad, each entry names the page of its value
all_have : (blocks : ℕ) (image : Image) (entries : List Entry) → ((page : ℕ) → lacks_value blocks image entries page ≡ false) → list_all (has_its_value blocks image) entries ≡ true
all_have blocks image [] none = refl
all_have blocks image (e ∷ es) none =
    and_from _ _ (by e (λ page. (or_parts (list_any (λ named. named == page) (page_named e) && not (has_its_value blocks image e)) (lacks_value blocks image es page) (none page)).0))
    (all_have blocks image es (λ page. (or_parts (list_any (λ named. named == page) (page_named e) && not (has_its_value blocks image e)) (lacks_value blocks image es page) (none page)).1))
  where
    has : (named whole : Bool) → named ≡ true → (named && not whole) ≡ false → whole ≡ true
    has true true e h = refl
    has true false e h = absurd cc
    has false whole e h = absurd cc

    by : (e : Entry) → ((page : ℕ) → (list_any (λ named. named == page) (page_named e) && not (has_its_value blocks image e)) ≡ false) → has_its_value blocks image e ≡ true
    by (Put key value) none = refl
    by (Gone key) none = refl
    by (At key page size) none = has ((page == page) || false) (has_its_value blocks image (At key page size)) (ap (λ b. b || false) (eq-eqb page page refl)) (none page)

-- what was seen of the index, where no page is bad, is what is visible
pub visible_are : (blocks : ℕ) (image : Image) (index : Index) (visible : Visible) → IsIndexRead blocks image index → IsSeen blocks image (merged index.log.entries (levels_map index.levels image)) visible → visible.bad ≡ None → AreVisible blocks image index.found.anchor visible
visible_are blocks image index visible read seen none =
    let shown = shown_is blocks image index read in
    let least = bad_is blocks image index visible.bad read seen.bad in
    record {
      places = seen.places ∙ ap pages_named shown;
      keys = seen.keys ∙ ap (λ (xs : List Entry). within_four_bytes (length xs)) shown;
      values = all_have blocks image (shown_by image index.found.anchor) (subst (λ (o : Option ℕ). IsLeastOf (lacks_value blocks image (shown_by image index.found.anchor)) o) none least);
    }

-- ---- the pages that they name

value_block : (blocks block : ℕ) → is_value_block blocks block ≡ true → IsValueBlock blocks block
value_block blocks block h = let p = and_parts _ _ h in record { first = leb-true _ _ p.0; last = ltb-true _ _ p.1 }

same_page : (p page : ℕ) → (p == page) ≡ true → p ≡ page
same_page p page e = grind (arith, nat_tests)

-- each lies in a block of values
pub named_values : (blocks : ℕ) (image : Image) (entries : List Entry) → list_all (has_its_value blocks image) entries ≡ true → (page : ℕ) → list_any (λ q. q == page) (pages_named entries) ≡ true → IsValueBlock blocks (page / 32)
named_values blocks image [] all page some = absurd cc
named_values blocks image (Put key value ∷ es) all page some = named_values blocks image es all page some
named_values blocks image (Gone key ∷ es) all page some = named_values blocks image es all page some
named_values blocks image (At key p size ∷ es) all page some = elim (or_cases _ _ some) [
  | inl here ↦ subst (λ (q : ℕ). IsValueBlock blocks (q / 32)) (same_page p page here) (value_block blocks (p / 32) (and_parts _ _ (and_parts _ _ all).0).0)
  | inr behind ↦ named_values blocks image es (and_parts _ _ all).1 page behind
]

-- the pages that are visible lie in blocks of values, and are few
pub places_within : (blocks : ℕ) (image : Image) (anchor : Anchor) (visible : Visible) → AreVisible blocks image anchor visible → (page : ℕ) → list_any (λ q. q == page) visible.places ≡ true → IsValueBlock blocks (page / 32)
places_within blocks image anchor visible seen page some =
    named_values blocks image (shown_by image anchor) seen.values page (ap (λ (pages : List ℕ). list_any (λ q. q == page) pages) (sym seen.places) ∙ some)

pub places_few : (blocks : ℕ) (image : Image) (found : Found) (visible : Visible) → blocks ≤ 2048 → Sound blocks image → newest_in image ≡ Some found → AreVisible blocks image found.anchor visible → length visible.places ≤ 65536
unfolding shown_in
places_few blocks image found visible most sound newest seen =
    omega (arith, ap length seen.places, ap (λ (xs : List Entry). length (pages_named xs)) (shown_here image found newest), sound.whole.index.room.pages)

-- there are few keys, so all were counted
keys_are : (blocks : ℕ) (image : Image) (found : Found) (visible : Visible) → blocks ≤ 2048 → Sound blocks image → newest_in image ≡ Some found → AreVisible blocks image found.anchor visible → visible.keys ≡ length (shown_in image)
unfolding shown_in
keys_are blocks image found visible most sound newest seen =
    omega (arith, seen.keys, ap length (shown_here image found newest), sound.whole.index.room.keys)

-- ---- all parts

pub parts_are : (blocks : ℕ) (image : Image) (layout : Layout) (index : Index) (clean : Bool) (visible : Visible) (values : Values) → blocks ≤ 2048 → Sound blocks image → layout.blocks ≡ blocks → IsIndexRead blocks image index → (IsTrue clean ↔ IsErasedBlock image index.found.anchor.log_block) → AreVisible blocks image index.found.anchor visible → HasVisible blocks visible.places values
    → AreParts blocks image (record { layout = layout; anchor_page = index.found.page; anchor = index.found.anchor; levels = index.levels; log = index.log.entries; clean = clean; last_block = index.log.last_block; next_seq = index.log.next_seq; values = values; keys = visible.keys; pages = length visible.places })
parts_are blocks image layout index clean visible values most sound device read erased seen has =
    let places : visible.places ≡ pages_named (shown_in image) = seen.places ∙ ap pages_named (shown_here image index.found read.found) in
    record {
      sound = sound;
      device = device;
      found = read.found;
      levels = read.levels;
      log = read.log.entries;
      clean = erased;
      last_block = read.log.last;
      next_seq = read.log.next;
      values = subst (λ (pages : List ℕ). HasVisible blocks pages values) places has;
      keys = keys_are blocks image index.found visible most sound read.found seen ∙ sym (objects_len image);
      pages = ap length places;
    }
