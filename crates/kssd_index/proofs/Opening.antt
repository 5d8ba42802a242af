-- An index of a clean log.
use Rattle.std.proofs.Common.{true, ◌≡◌, ◌∙◌, ℕ, ◌-◌, ◌<◌, ◌^◌, max, List, [], length, None, sym, ap, subst, arith}
use Rattle.kv_nand.specs.Flash.{Image}
use Rattle.kssd_entry.specs.declared.entry.Entry.{Entry}
use Rattle.kssd_image.specs.Whole.{age_by, age_in}
use Rattle.kssd_log.specs.Ring.{begun}
use Rattle.kssd_log.specs.declared.place.Place.{Place}
use Rattle.kssd_index.specs.declared.parts.IndexParts.{IndexParts}
use Rattle.kssd_root.specs.declared.root.Root.{Root}
use Rattle.kssd_root.specs.Standing.{IsRoot, EndsAt}
use Rattle.kssd_index.proofs.Later.{within_of, unsplit}
use Rattle.kssd_index.specs.Standing.{IsIndex, AreParts, IsFit, is_clean}
use Rattle.kssd_root.proofs.Anchored.{age_is}
use Rattle.kssd_root.proofs.Beginning.{anchor_age_is, clean_ends, clean_table}

pub opened : (parts : IndexParts) (table : List Entry) (ring : Place) (age : ℕ) → IsFit parts → is_clean parts ≡ true → table ≡ [] → ring ≡ begun parts.anchor.log_block parts.anchor.log_seq
    → age ≡ max (max parts.anchor.number (max parts.anchor.next_run parts.anchor.log_seq)) (parts.next_seq - 1) → (blocks : ℕ) (image : Image) → AreParts parts blocks image
    → IsIndex (record { root = record { layout = parts.layout; page = parts.page; anchor = parts.anchor; levels = parts.levels }; table = table; older = None; ring = ring; age = age; job = None }) blocks image × (age ≡ age_in image)
opened parts table ring age fit clean is at aged blocks image h =
    let greatest_is = anchor_age_is parts.layout.blocks parts.anchor fit.form in
    let low : parts.anchor.log_seq < 2 ^ 64 = omega (arith, greatest_is, fit.numbers) in
    let erased = h.clean clean in
    let root : Root = record { layout = parts.layout; page = parts.page; anchor = parts.anchor; levels = parts.levels } in
    let stands : IsRoot root blocks image = record { device = h.device; anchored = h.anchored; runs = h.runs } in
    let here : EndsAt ring parts.anchor image = subst (λ (p : Place). EndsAt p parts.anchor image) (sym at) (clean_ends image parts.anchor erased low) in
    let age_is_by : age ≡ age_by image parts.anchor = omega (arith, aged, greatest_is, h.next) in (
      record {
        root = stands;
        split = unsplit root blocks image stands;
        log = here;
        long = within_of ring parts.anchor image here;
        left = omega (arith, ap (λ (p : Place). p.blocks) at);
        table = is ∙ sym (clean_table image parts.anchor erased low);
        few = omega (arith, ap (λ (es : List Entry). length es) is);
        older_few = omega arith;
        numbers = omega (arith, age_is_by);
        job = tt;
      },
      age_is_by ∙ sym (age_is parts.page parts.anchor image h.anchored.newest),
    )
