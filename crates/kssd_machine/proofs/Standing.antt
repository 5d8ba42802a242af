-- When the device on a flash stays as it is.
use Rattle.std.proofs.Common.{◌≡◌, ◌∙◌, ℕ, ◌≤◌, Bool, true, false, cond, List, [], ◌∷◌, length, map, Some, None, option_map, refl, ap, subst, arith}
use Rattle.std.specs.List.{AllByRecursion}
use Rattle.std.specs.FinMap as objects
use Rattle.std.proofs.lemmas.Bool.{eq-eqb}
use Rattle.std.proofs.lemmas.List.{length-map}
use Rattle.kv_nand.specs.Flash.{Flash, Image, Erased, Whole, Cut, IsPageState}
use Rattle.kv_nand.specs.Flash as flash_words
use Rattle.kv_nand.specs.Working.{Works}
use Rattle.kv_device.specs.Machine.{none_open, down, restarted}
use Rattle.kv_device.specs.Calls.{IsSound}
use Rattle.kssd_layout.specs.Numbers.{max_keys_in, max_pages_in}
use Rattle.kssd_entry.specs.declared.entry.Entry.{Entry}
use Rattle.kssd_entry.specs.declared.entry.Entry.TheVariants.{Put, At, Gone}
use Rattle.kssd_model.specs.GroupsLaws.{HasBytes}
use Rattle.kssd_model.specs.Rising.{merged}
use Rattle.kssd_model.specs.OnlyReading.{OnlyReads}
use Rattle.kssd_image.specs.ValuePages.{first_bytes}
use Rattle.kssd_image.specs.Stages.{shown_in, objects_in, change_in, changes_of}
use Rattle.kssd_image.specs.Whole.{IsWhole}
use Rattle.kssd_frames.specs.Same.{IsSameAt}
use Rattle.kssd_frames.proofs.SameImages.{through}
use Rattle.kssd_frames.proofs.ShownLaws.{all_merged, objects_len, pages_counted}
use Rattle.kssd_tx.specs.Lists.{Transactions}
use Rattle.kssd_machine.specs.Names.{names, times}
use Rattle.kssd_machine.specs.Machines.{pending_in, machine_of, no_lists, resting, SameCounts, ArePendingSame}
use Rattle.kssd_machine.proofs.Naming.{pending_first, each_named}
use Rattle.kssd_machine.proofs.Holding.{holds_bytes}

-- ---- changes

-- an entry whose page is the same makes the same change
same_change : (old new : Image) (e : Entry) → ((page : ℕ) → names page e ≡ true → IsSameAt old new page) → change_in new e ≡ change_in old e
same_change old new (Put key value) same = refl
same_change old new (Gone key) same = refl
same_change old new (At key page size) same =
    ap (λ bytes. (key, Some bytes)) (through (first_bytes size) refl (new page) (old page) (same page (eq-eqb page page refl)))

same_changes : (old new : Image) (es : List Entry) → AllByRecursion (λ e. (page : ℕ) → names page e ≡ true → IsSameAt old new page) es → map (change_in new) es ≡ map (change_in old) es
same_changes old new [] same = refl
same_changes old new (e ∷ es) same = λ i. same_change old new e same.0 i ∷ same_changes old new es same.1 i

pub changes_same : (old new : Image) (es : List Entry) → ((page : ℕ) → 1 ≤ times page es → IsSameAt old new page) → changes_of new es ≡ changes_of old es
unfolding changes_of
changes_same old new es same =
    ap objects.from_sorted (same_changes old new (merged es []) (all_merged (λ e. (page : ℕ) → names page e ≡ true → IsSameAt old new page) es [] (each_named (IsSameAt old new) es same) tt))

pub pending_same : (old new : Image) (lists : Transactions) → ArePendingSame old new lists → pending_in new lists ≡ pending_in old lists
pending_same old new [] same = refl
pending_same old new (None ∷ ts) same =
    let rest = pending_same old new ts (λ page some. same page (omega (arith, pending_first page None ts))) in
    λ i. None ∷ rest i
pending_same old new (Some es ∷ ts) same =
    let first = changes_same old new es (λ page some. same page (omega (arith, pending_first page (Some es) ts))) in
    let rest = pending_same old new ts (λ page some. same page (omega (arith, pending_first page (Some es) ts))) in
    λ i. Some (first i) ∷ rest i

-- ---- the device

pub stays : (old new : Flash) (up : Bool) (lists : Transactions) → SameCounts old new → objects_in new.image ≡ objects_in old.image → ArePendingSame old.image new.image lists → machine_of new up lists ≡ machine_of old up lists
stays old new up lists counts same pages =
    let pending = pending_same old.image new.image lists pages in
    λ i. record {
      up = up;
      stable = same i;
      pending = cond up (pending i) none_open;
      cuts = counts.cuts i;
      faults = counts.faults i;
      most_cuts = counts.most_cuts i;
      most_faults = counts.most_faults i;
      room_keys = max_keys_in (counts.blocks i);
      room_pages = max_pages_in (counts.blocks i);
    }

pub works_same : (old new : Flash) (ops reads : ℕ) → Works old new ops reads → SameCounts old new
works_same old new ops reads w = record {
  blocks = ap (λ (f : Flash). f.blocks) w.after;
  cuts = ap (λ (f : Flash). f.cuts) w.after;
  faults = ap (λ (f : Flash). f.faults) w.after;
  most_cuts = ap (λ (f : Flash). f.most_cuts) w.after;
  most_faults = ap (λ (f : Flash). f.most_faults) w.after;
}

pub reading_stays : (old new : Flash) (up : Bool) (lists : Transactions) → OnlyReads old new → machine_of new up lists ≡ machine_of old up lists
reading_stays old new up lists r = ap (λ (f : Flash). machine_of f up lists) r.after

pub downs : (flash : Flash) (up : Bool) (lists other : Transactions) → machine_of flash false other ≡ down (machine_of flash up lists)
downs flash up lists other = refl

pub mounted : (flash : Flash) → machine_of flash true no_lists ≡ restarted (resting flash)
mounted flash = refl

pub bytes_of : (flash : Flash) → flash_words.IsSound flash → HasBytes flash.image
bytes_of flash sound page bytes is = subst IsPageState is (sound.pages page)

four_open : (image : Image) (up : Bool) (lists : Transactions) → length lists ≡ 4 → length (cond up (pending_in image lists) none_open) ≡ 4
four_open image true lists four = length-map lists (option_map (changes_of image)) ∙ four
four_open image false lists four = refl

pub sound : (flash : Flash) (up : Bool) (lists : Transactions) → flash_words.IsSound flash → IsWhole flash.blocks flash.image → length lists ≡ 4 → IsSound (machine_of flash up lists)
unfolding shown_in
sound flash up lists f whole four = record {
  keys = omega (arith, objects_len flash.image, whole.index.room.keys);
  pages = omega (arith, pages_counted flash.blocks flash.image (bytes_of flash f) whole, whole.index.room.pages);
  cuts = f.cuts;
  faults = f.faults;
  four = four_open flash.image up lists four;
  held = holds_bytes flash.blocks flash.image f.blocks (bytes_of flash f) whole;
}
