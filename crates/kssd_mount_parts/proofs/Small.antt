-- A small device stays one, whatever step it takes.
use Rattle.std.proofs.Common.{◌≡◌, ◌∙◌, ℕ, ◌+◌, ◌*◌, ◌/◌, ◌≤◌, ◌<◌, ◌^◌, Bool, true, false, cond, not, List, [], ◌∷◌, length, refl, sym, ap, subst, arith}
use Rattle.std.specs.List.{AllByRecursion, list_all}
use Rattle.kv_nand.specs.Flash.{Flash, Image}
use Rattle.kssd_layout.specs.Numbers.{max_keys_in, max_pages_in, first_value_block_in}
use Rattle.kssd_entry.specs.declared.entry.Entry.{Entry}
use Rattle.kssd_entry.specs.declared.entry.Entry.TheVariants.{Put, At, Gone}
use Rattle.kssd_model.specs.OnlyReading.{OnlyReads}
use Rattle.kssd_model.specs.Rising.{is_gone, merged}
use Rattle.kssd_model.proofs.ReadingOn.{reads_image, reads_blocks}
use Rattle.kssd_image.specs.Stages.{without_marks, shown_in}
use Rattle.kssd_image.specs.Whole.{page_named, pages_named, has_its_value, is_value_block, AreValuesWhole, IsWhole, Sound, age_in}
use Rattle.kssd_frames.proofs.ShownLaws.{all_merged}
use Rattle.kssd_frames.proofs.Changes.{block_left}
use Rattle.kssd_index.specs.declared.index.Index.{Index}
use Rattle.kssd_index.specs.Standing.{IsIndex, index_age}
use Rattle.kssd_root.specs.Mapping.{with_entries, IsKept, IsBeforeOrAfter}
use Rattle.kssd_root.proofs.Counting.{merged_few}
use Rattle.kssd_recover.specs.Formatting.{IsFresh}
use Rattle.kssd_mounted.specs.declared.mounted.Mounted.{Mounted}
use Rattle.kssd_mounted.specs.Standing.{Stands, Leaves, mounted_age}
use Rattle.kssd_mount.proofs.Taking.{taken}
use Rattle.kssd_mount.proofs.Settling.{kept_whole}
use Rattle.kssd_mount_parts.specs.Small.{IsTaken, IsSmall}

-- ---- entries that name no page

abbrev AreInline : List Entry → Type 0
AreInline es = AllByRecursion (λ e. page_named e ≡ []) es

inline_from : (es : List Entry) → pages_named es ≡ [] → AreInline es
inline_from [] none = tt
inline_from (Put key value ∷ es) none = (refl, inline_from es none)
inline_from (Gone key ∷ es) none = (refl, inline_from es none)
inline_from (At key page size ∷ es) none = absurd cc

none_from : (es : List Entry) → AreInline es → pages_named es ≡ []
none_from [] all = refl
none_from (Put key value ∷ es) all = none_from es all.1
none_from (Gone key ∷ es) all = none_from es all.1
none_from (At key page size ∷ es) all = absurd (let e : page ∷ [] ≡ [] = all.0 in cc)

inline_unmarked : (es : List Entry) → AreInline es → AreInline (without_marks es)
inline_unmarked [] all = tt
inline_unmarked (e ∷ es) all = by (is_gone e) (inline_unmarked es all.1)
  where
    by : (b : Bool) → AreInline (without_marks es) → AreInline (cond (not b) (e ∷ without_marks es) (without_marks es))
    by true rest = rest
    by false rest = (all.0, rest)

few_unmarked : (es : List Entry) → length (without_marks es) ≤ length es
few_unmarked [] = omega arith
few_unmarked (e ∷ es) = by (is_gone e) (few_unmarked es)
  where
    by : (b : Bool) → length (without_marks es) ≤ length es → length (cond (not b) (e ∷ without_marks es) (without_marks es)) ≤ length (e ∷ es)
    by true rest = omega arith
    by false rest = omega arith

few_with : (shown entries : List Entry) → length (with_entries shown entries) ≤ length entries + length shown
few_with shown entries = omega (arith, few_unmarked (merged entries shown), merged_few entries shown)

none_with : (shown entries : List Entry) → pages_named shown ≡ [] → pages_named entries ≡ [] → pages_named (with_entries shown entries) ≡ []
none_with shown entries older newer = none_from (with_entries shown entries) (inline_unmarked (merged entries shown) (all_merged (λ e. page_named e ≡ []) entries shown (inline_from entries newer) (inline_from shown older)))

valued : (blocks : ℕ) (image : Image) (es : List Entry) → AreInline es → list_all (has_its_value blocks image) es ≡ true
valued blocks image [] all = refl
valued blocks image (Put key value ∷ es) all = valued blocks image es all.1
valued blocks image (Gone key ∷ es) all = valued blocks image es all.1
valued blocks image (At key page size ∷ es) all = absurd (let e : page ∷ [] ≡ [] = all.0 in cc)

first_block : (blocks : ℕ) → 256 ≤ blocks → is_value_block blocks (first_value_block_in blocks) ≡ true
first_block blocks least = grind arith

values_whole : (blocks : ℕ) (image : Image) (es : List Entry) → 256 ≤ blocks → pages_named es ≡ [] → AreValuesWhole blocks image es
values_whole blocks image es least none = record {
  pages = valued blocks image es (inline_from es none);
  spare = block_left blocks es (first_value_block_in blocks) least (first_block blocks least) (ap (λ (pages : List ℕ). list_all (λ page. not (Rattle.std.specs.Prelude.nat_eq (page / 32) (first_value_block_in blocks))) pages) none);
}

-- ---- steps

pub sound : (flash : Flash) (steps : ℕ) → IsTaken flash steps → steps < 2 ^ 32 → Sound flash.blocks flash.image
sound flash steps h few = let age = h.age_is in taken flash.blocks flash.image h.whole (omega arith)

-- a mount leaves it so
pub still_taken : (old new : Flash) (steps : ℕ) → IsTaken old steps → steps < 2 ^ 32 → (Sound old.blocks old.image → Leaves old (age_in old.image + 2 ^ 20) new) → IsTaken new (steps + 1)
still_taken old new steps h few leaves =
    let left = leaves (sound old steps h few) in
    let age = h.age_is in
    record {
      least = omega (arith, h.least, left.blocks);
      most = omega (arith, h.most, left.blocks);
      whole = left.whole;
      age_is = omega (arith, left.age_is);
    }

pub small_still : (index : Index) (old new : Flash) (steps : ℕ) → IsSmall index old steps → OnlyReads old new → IsSmall index new steps
small_still index old new steps h reads =
    let image = reads_image old new reads in
    let blocks = reads_blocks old new reads in
    record {
      taken = record {
        least = omega (arith, h.taken.least, blocks);
        most = omega (arith, h.taken.most, blocks);
        whole = subst (λ (p : ℕ × Image). IsWhole p.0 p.1) (λ i. (sym blocks i, sym image i)) h.taken.whole;
        age_is = subst (λ (im : Image). age_in im ≤ 2 ^ 22 * (steps + 1)) (sym image) h.taken.age_is;
      };
      stands = subst (λ (p : ℕ × Image). IsIndex index p.0 p.1) (λ i. (sym blocks i, sym image i)) h.stands;
      keys = subst (λ (im : Image). length (shown_in im) ≤ 5 * steps) (sym image) h.keys;
      pages = subst (λ (im : Image). pages_named (shown_in im) ≡ []) (sym image) h.pages;
      age_is = h.age_is;
    }

pub formatted : (old new : Flash) → 256 ≤ old.blocks → old.blocks ≤ 2048 → new.blocks ≡ old.blocks → IsFresh old.blocks old.image new.image → IsTaken new 0
formatted old new least most same fresh = record {
  least = omega (arith, least, same);
  most = omega (arith, most, same);
  whole = subst (λ (n : ℕ). IsWhole n new.image) (sym same) fresh.empty.sound.whole;
  age_is = let age = fresh.empty.age in omega arith;
}

pub placed : (before after : Index) (old new : Flash) (steps : ℕ) → IsSmall before old steps → new.blocks ≡ old.blocks → IsKept old.blocks old.image new.image → IsIndex after new.blocks new.image → age_in new.image ≤ index_age after → index_age after ≤ index_age before + 2 ^ 8
    → IsSmall after new (steps + 1)
placed before after old new steps h same kept stands aged ages =
    let age = h.age_is in
    let keys = h.keys in
    record {
      taken = record {
        least = omega (arith, h.taken.least, same);
        most = omega (arith, h.taken.most, same);
        whole = subst (λ (n : ℕ). IsWhole n new.image) (sym same) (kept_whole old.blocks old.image new.image h.taken.whole kept);
        age_is = omega arith;
      };
      stands = stands;
      keys = omega (arith, ap length kept.shown);
      pages = ap pages_named kept.shown ∙ h.pages;
      age_is = omega arith;
    }

-- a step more says no more
pub later : (index : Index) (flash : Flash) (steps : ℕ) → IsSmall index flash (steps + 1) → IsSmall index flash (steps + 2)
later index flash steps h = record {
  taken = record { least = h.taken.least; most = h.taken.most; whole = h.taken.whole; age_is = let age = h.taken.age_is in omega arith };
  stands = h.stands;
  keys = let keys = h.keys in omega arith;
  pages = h.pages;
  age_is = let age = h.age_is in omega arith;
}

pub room : (index : Index) (flash : Flash) (steps : ℕ) (entries : List Entry) → IsSmall index flash steps → steps ≤ 800 → length entries ≤ 5 → pages_named entries ≡ []
    → (length (with_entries (shown_in flash.image) entries) ≤ max_keys_in flash.blocks) × (length (pages_named (with_entries (shown_in flash.image) entries)) ≤ max_pages_in flash.blocks)
room index flash steps entries h few size none =
    let keys = h.keys in
    let least = h.taken.least in
    (omega (arith, few_with (shown_in flash.image) entries), omega (arith, ap length (none_with (shown_in flash.image) entries h.pages none)))

pub appended : (before after : Index) (old new : Flash) (steps : ℕ) (entries : List Entry) → IsSmall before old steps → length entries ≤ 5 → pages_named entries ≡ [] → new.blocks ≡ old.blocks
    → IsBeforeOrAfter old.blocks old.image entries new.image → shown_in new.image ≡ with_entries (shown_in old.image) entries → IsIndex after new.blocks new.image → age_in new.image ≤ index_age after → index_age after ≤ index_age before + 2 ^ 8
    → IsSmall after new (steps + 1)
appended before after old new steps entries h size none same kept shown stands aged ages =
    let age = h.age_is in
    let keys = h.keys in
    let pages = ap pages_named shown ∙ none_with (shown_in old.image) entries h.pages none in
    record {
      taken = record {
        least = omega (arith, h.taken.least, same);
        most = omega (arith, h.taken.most, same);
        whole = subst (λ (n : ℕ). IsWhole n new.image) (sym same) (record { found = kept.index.found; index = kept.index.index; values = values_whole old.blocks new.image (shown_in new.image) h.taken.least pages });
        age_is = omega arith;
      };
      stands = stands;
      keys = omega (arith, few_with (shown_in old.image) entries, ap length shown);
      pages = pages;
      age_is = omega arith;
    }

pub left : (old new : Flash) (steps : ℕ) → IsTaken old steps → Leaves old (age_in old.image + 2 ^ 20) new → IsTaken new (steps + 1)
left old new steps h leaves = record {
  least = omega (arith, h.least, leaves.blocks);
  most = omega (arith, h.most, leaves.blocks);
  whole = leaves.whole;
  age_is = omega (arith, h.age_is, leaves.age_is);
}

none_named : (pages : List ℕ) → length pages ≡ 0 → pages ≡ []
none_named [] none = refl
none_named (page ∷ pages) none = absurd (omega arith)

pub mounted : (m : Mounted) (old new : Flash) (steps : ℕ) → IsTaken old steps → Leaves old (age_in old.image + 2 ^ 20) new → Stands m new → m.pages ≡ 0 → m.keys ≤ 5 * steps → mounted_age m ≤ age_in old.image + 2 ^ 20 → IsSmall m.index new (steps + 2)
mounted m old new steps h leaves stands none few age =
    let was = left old new steps h leaves in
    let before = h.age_is in
    let now = was.age_is in
    let counted = stands.keys in
    record {
      taken = record { least = was.least; most = was.most; whole = was.whole; age_is = omega arith };
      stands = stands.index;
      keys = omega arith;
      pages = none_named (pages_named (shown_in new.image)) (sym stands.pages ∙ none);
      age_is = omega arith;
    }
