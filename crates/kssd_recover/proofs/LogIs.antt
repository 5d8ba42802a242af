-- What a scan says of the log of an anchor.
use Rattle.std.proofs.Common.{◌≡◌, ◌∙◌, ℕ, ◌*◌, ◌/◌, ◌<◌, ◌≤◌, ◌^◌, List, [], length, sym, ap, subst, arith}
use Rattle.kv_nand.specs.Flash.{Image}
use Rattle.kssd_entry.specs.declared.entry.Entry.{Entry}
use Rattle.kssd_log.specs.declared.found.Scan.{Scan}
use Rattle.kssd_log.specs.Scan.{IsScan}
use Rattle.kssd_model.specs.declared.anchor.Anchor.{Anchor}
use Rattle.kssd_model.specs.Groups.{Walk}
use Rattle.kssd_model.specs.Rising.{merged}
use Rattle.kssd_model.proofs.GroupsWalks.{log_in_is}
use Rattle.kssd_image.specs.Stages.{entries_of, log_map}
use Rattle.kssd_image.specs.Whole.{log_of, IsLogWhole}
use Rattle.kssd_image.proofs.LogDamage.{path_is_short, turns_within}
use Rattle.kssd_recover.specs.declared.log.LogContents.{LogContents}
use Rattle.kssd_recover.specs.Log.{IsLogOf}
use Rattle.kssd_recover.proofs.Tables.{few_keys}

-- the groups that were scanned have at most 2,048 keys
pub few_scanned : (image : Image) (page number : ℕ) (s : Scan) → IsScan image page number s → length (merged (entries_of s.groups) []) ≤ 2048
few_scanned image page number s is = subst (λ (groups : List (List Entry)). length (merged (entries_of groups) []) ≤ 2048) is.log.groups_are (few_keys is.log.pages is.allowed)

-- a log that a mount takes has few pages
few_pages : (image : Image) (page number : ℕ) (s : Scan) → number < 2 ^ 63 → IsScan image page number s → s.next_seq < 2 ^ 64
few_pages image page number s low is =
    let short = path_is_short image page number is.log.pages is.end s.next_seq is.log.path in
    omega (arith, is.counted, short, turns_within 0 is.log.pages is.allowed.blocks (omega arith))

-- it is the log of the image
pub log_is : (image : Image) (anchor : Anchor) (s : Scan) (log : LogContents) → anchor.log_seq < 2 ^ 63 → IsScan image (32 * anchor.log_block) anchor.log_seq s → log.entries ≡ merged (entries_of s.groups) [] → log.last_block ≡ s.last_block → log.next_seq ≡ s.next_seq → IsLogOf image anchor log
unfolding log_map
log_is image anchor s log low is entries last next =
    let page = 32 * anchor.log_block in
    let number = anchor.log_seq in
    let walk : log_of image anchor ≡ record { pages = is.log.pages; end = is.end; next = s.next_seq } = log_in_is image page number s.groups is.rest is.turns is.end s.next_seq is.log (few_pages image page number s low is) in
    record {
      entries = entries ∙ ap (λ (groups : List (List Entry)). merged (entries_of groups) []) is.groups;
      last = last ∙ is.block ∙ sym (ap (λ (w : Walk). w.end / 32) walk);
      next = next ∙ sym (ap (λ (w : Walk). w.next) walk);
      whole = subst (IsLogWhole image) (sym walk) (record { allowed = is.allowed; ends = is.log.ends });
    }
