-- What stays of a device where only pages of values change that no entry names.
use Rattle.std.proofs.Common.{◌≡◌, ◌≢◌, ◌∙◌, ℕ, ◌≤◌, true, false, cond, refl, sym, ap, subst, arith}
use Rattle.kv_nand.specs.Flash.{Flash, PageState, Erased}
use Rattle.kssd_image.specs.Stages.{shown_in, objects_in}
use Rattle.kssd_image.specs.Whole.{IsWhole, age_in}
use Rattle.kssd_frames.specs.Same.{Stays}
use Rattle.kssd_index.proofs.Anchored.{aged_still}
use Rattle.kssd_values.specs.declared.mark.Mark.{Mark}
use Rattle.kssd_values.specs.declared.mark.Mark.TheVariants.{Pending, Visible, Dead}
use Rattle.kssd_values.specs.Marks.{is_live}
use Rattle.kssd_values.specs.Blocks.{mark_at}
use Rattle.kssd_values.specs.Pages.{is_value, KeepsPages, LiveStand}
use Rattle.kssd_machine.specs.Names.{times_pending, are_valued}
use Rattle.kssd_machine.specs.Machines.{ArePendingSame}
use Rattle.kssd_machine.specs.Marked.{is_pending}
use Rattle.kssd_machine.proofs.Keeping.{objects_stay, live_holds, pending_stays, still_valued}
use Rattle.kssd_mounted.specs.declared.mounted.Mounted.{Mounted}
use Rattle.kssd_mounted.specs.Standing.{Stands, Leaves, mounted_age}

-- the objects and what a mount takes
pub image_kept : (m : Mounted) (old new : Flash) → Stands m old → KeepsPages m.values old.image new.image → Stays old.blocks old.image new.image (age_in old.image)
image_kept m old new stands keeps =
    subst (λ (blocks : ℕ). Stays blocks old.image new.image (age_in old.image)) stands.device
    (objects_stay m.values old.image new.image m.changes (subst (λ (blocks : ℕ). IsWhole blocks old.image) (sym stands.device) stands.whole) stands.marked keeps)

pub objects_kept : (m : Mounted) (old new : Flash) → Stands m old → KeepsPages m.values old.image new.image → objects_in new.image ≡ objects_in old.image
objects_kept m old new stands keeps = (image_kept m old new stands keeps).keeps.objects

pub leaves_kept : (m : Mounted) (old new : Flash) → Stands m old → KeepsPages m.values old.image new.image → new.blocks ≡ old.blocks → Leaves old (mounted_age m) new
leaves_kept m old new stands keeps blocks =
    let kept = image_kept m old new stands keeps in
    record {
      blocks = blocks;
      whole = subst (λ (n : ℕ). IsWhole n new.image) (sym blocks) kept.keeps.whole;
      age_is = let aged = aged_still m.index old.blocks old.image stands.index in let same = kept.age_is in omega arith;
    }

-- the pages of pending changes count for the same
pub pending_kept : (m : Mounted) (old new : Flash) → Stands m old → KeepsPages m.values old.image new.image → ArePendingSame old.image new.image m.changes
pending_kept m old new stands keeps = pending_stays old.blocks m.values old.image new.image (shown_in old.image) m.changes stands.marked stands.whole.values.pages stands.valued keeps

-- every visible or pending page stands as the page of a value
pub stand : (m : Mounted) (old : Flash) → Stands m old → LiveStand m.values old.image
stand m old stands = record { each = λ q live. (live_holds old.blocks m.values old.image (shown_in old.image) m.changes q stands.marked stands.whole.values.pages stands.valued live).1 }

live_since : (mark : Mark) (n : ℕ) → n ≡ cond (is_pending mark) 1 0 → 1 ≤ n → is_live mark ≡ true
live_since Pending n is some = refl
live_since Visible n is some = absurd (omega arith)
live_since Dead n is some = absurd (omega arith)

not_erased : (state : PageState) → is_value state ≡ true → state ≢ Erased
not_erased state is h = absurd (let e : false ≡ true = sym (ap is_value h) ∙ is in cc)

-- and hold their values
pub valued_kept : (m : Mounted) (old new : Flash) → Stands m old → KeepsPages m.values old.image new.image → are_valued old.blocks new.image m.changes ≡ true
valued_kept m old new stands keeps = still_valued old.blocks old.image new.image m.changes stands.valued same
  where
    same : (page : ℕ) → 1 ≤ times_pending page m.changes → new.image page ≡ old.image page
    same page some =
        let live = live_since (mark_at m.values page) (times_pending page m.changes) (stands.marked.pending page) some in
        let holds = live_holds old.blocks m.values old.image (shown_in old.image) m.changes page stands.marked stands.whole.values.pages stands.valued live in
        keeps.live page live (not_erased (old.image page) holds.1)
