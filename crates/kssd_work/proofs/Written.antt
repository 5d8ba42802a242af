-- A device whose index wrote runs.
use Rattle.std.proofs.Common.{◌≡◌, ◌∙◌, ℕ, ◌/◌, ◌≤◌, true, List, [], ◌∷◌, length, unwrap_or, refl, sym, ap, subst, arith}
use Rattle.std.specs.List.{list_all}
use Rattle.std.proofs.lemmas.Bool.{and_parts, and_from}
use Rattle.kv_nand.specs.Flash.{Flash, Image}
use Rattle.kv_nand.specs.Working.{Works}
use Rattle.kssd_layout.specs.Numbers.{first_value_block_in}
use Rattle.kssd_entry.specs.declared.entry.Entry.{Entry}
use Rattle.kssd_image.specs.Stages.{shown_in, objects_in}
use Rattle.kssd_image.specs.Whole.{AreValuesWhole, IsWhole, has_its_value, pages_named, age_in}
use Rattle.kssd_tx.specs.Lists.{Transactions}
use Rattle.kssd_values.specs.declared.filling.Filling.{Filling}
use Rattle.kssd_values.specs.declared.values.Values.{Values}
use Rattle.kssd_values.specs.Places.{IsValueBlock}
use Rattle.kssd_values.specs.Blocks.{device_of}
use Rattle.kssd_values.specs.Changes.{SamePlaces}
use Rattle.kssd_values.specs.Pages.{Fills}
use Rattle.kssd_values.proofs.Filled.{in_same}
use Rattle.kssd_root.specs.Mapping.{SameValues, IsKept}
use Rattle.kssd_index.specs.declared.index.Index.{Index}
use Rattle.kssd_index.specs.Standing.{IsIndex}
use Rattle.kssd_machine.specs.Names.{are_valued}
use Rattle.kssd_machine.specs.Marked.{AreMarked}
use Rattle.kssd_machine.specs.Machines.{machine_of}
use Rattle.kssd_machine.proofs.Standing.{stays, works_same}
use Rattle.kssd_machine.proofs.Finishing.{all_valued, values_whole, objects_same, pending_kept}
use Rattle.kssd_mounted.specs.declared.mounted.Mounted.{Mounted}
use Rattle.kssd_mounted.specs.Standing.{Stands, Leaves}
use Rattle.kssd_mounted.proofs.Bearing.{collection_stays, bears_outside}

-- ---- the image

pub whole_kept : (blocks : ℕ) (old new : Image) → IsWhole blocks old → IsKept blocks old new → IsWhole blocks new
whole_kept blocks old new whole kept = record {
  found = kept.index.found;
  index = kept.index.index;
  values = values_whole blocks old new (shown_in new) (subst (AreValuesWhole blocks old) (sym kept.shown) whole.values) kept.values;
}

pub objects_kept : (blocks : ℕ) (old new : Image) → IsWhole blocks old → IsKept blocks old new → objects_in new ≡ objects_in old
objects_kept blocks old new whole kept = objects_same blocks old new whole.values kept.values kept.shown

-- ---- the values

lists_valued : (blocks : ℕ) (old new : Image) (lists : Transactions) → SameValues blocks old new → are_valued blocks old lists ≡ true → are_valued blocks new lists ≡ true
lists_valued blocks old new [] same valued = refl
lists_valued blocks old new (t ∷ ts) same valued =
    let both = and_parts (list_all (has_its_value blocks old) (unwrap_or t [])) (are_valued blocks old ts) valued in
    and_from _ _ (all_valued blocks old new (unwrap_or t []) same both.0) (lists_valued blocks old new ts same both.1)

fills_still : (v : Values) (old new : Image) → SameValues (device_of v) old new → Fills v old → Fills v new
fills_still v old new same fills = record {
  opened = in_same v.opened old new fills.opened (λ f is q at. same q (low f q at (v.sound.opened_is f is).value));
  target = in_same v.target old new fills.target (λ f is q at. same q (low f q at (v.sound.target_is f is).value));
}
  where
    low : (f : Filling) (q : ℕ) → q / 32 ≡ f.block → IsValueBlock (device_of v) f.block → first_value_block_in (device_of v) ≤ q / 32
    low f q at value = subst (λ b. first_value_block_in (device_of v) ≤ b) (sym at) value.first

places_still : (v : Values) → SamePlaces v v
places_still v = record {
  device = refl;
  blocks = record { states = λ block. refl; free = refl };
  opened = record { room = refl; next = refl };
  target = record { has = refl; next = refl; pages = λ q. refl };
  fills = λ image fills. fills;
}

-- ---- the device

pub stands_kept : (m : Mounted) (index : Index) (old new : Flash) (ops reads : ℕ) → Stands m old → Works old new ops reads → IsIndex index new.blocks new.image → IsKept old.blocks old.image new.image → Stands (record m { index = index }) new
stands_kept m index old new ops reads stands works index_is kept =
    let blocks : new.blocks ≡ old.blocks = ap (λ (f : Flash). f.blocks) works.after in
    record {
      powered = ap (λ (f : Flash). f.powered) works.after ∙ stands.powered;
      least = subst (λ n. 256 ≤ n) (sym blocks) stands.least;
      most = subst (λ n. n ≤ 2048) (sym blocks) stands.most;
      whole = subst (λ n. IsWhole n new.image) (sym blocks) (whole_kept old.blocks old.image new.image stands.whole kept);
      index = index_is;
      device = stands.device ∙ sym blocks;
      fills = fills_still m.values old.image new.image (subst (λ n. SameValues n old.image new.image) (sym stands.device) kept.values) stands.fills;
      collecting = collection_stays m.collection m.values m.values old.image new.image stands.collecting
          (bears_outside m.values m.values old.image new.image (places_still m.values) (λ page live. live) (λ page value. kept.values page (subst (λ n. first_value_block_in n ≤ page / 32) stands.device value)));
      four = stands.four;
      rising = stands.rising;
      valued = subst (λ n. are_valued n new.image m.changes ≡ true) (sym blocks) (lists_valued old.blocks old.image new.image m.changes kept.values stands.valued);
      marked = subst (λ (es : List Entry). AreMarked m.values es m.changes) (sym kept.shown) stands.marked;
      block = stands.block;
      keys = stands.keys ∙ sym (ap (λ (es : List Entry). length es) kept.shown);
      pages = stands.pages ∙ sym (ap (λ (es : List Entry). length (pages_named es)) kept.shown);
    }

pub machine_kept : (m : Mounted) (old new : Flash) (ops reads : ℕ) → Stands m old → Works old new ops reads → IsKept old.blocks old.image new.image → machine_of new true m.changes ≡ machine_of old true m.changes
machine_kept m old new ops reads stands works kept =
    stays old new true m.changes (works_same old new ops reads works) (objects_kept old.blocks old.image new.image stands.whole kept) (pending_kept old.blocks old.image new.image m.changes stands.valued kept.values)

pub leaves_kept : (m : Mounted) (old new : Flash) (age most : ℕ) → Stands m old → new.blocks ≡ old.blocks → IsKept old.blocks old.image new.image → age_in new.image ≤ age → age ≤ most → Leaves old most new
leaves_kept m old new age most stands blocks kept aged low = record {
  blocks = blocks;
  whole = subst (λ n. IsWhole n new.image) (sym blocks) (whole_kept old.blocks old.image new.image stands.whole kept);
  age_is = omega (arith, aged, low);
}
