-- A log that begins in a block whose pages are Erased.
use Rattle.std.proofs.Common.{◌≡◌, ℕ, ◌+◌, ◌*◌, ◌/◌, ◌<◌, ◌≤◌, ◌^◌, max, List, [], ◌∷◌, refl, ap, arith}
use Rattle.std.specs.List.{All}
use Rattle.std.proofs.lemmas.List.Elements.{All-head, All-tail}
use Rattle.kv_nand.specs.Flash.{Image}
use Rattle.kssd_entry.specs.declared.entry.Entry.{Entry}
use Rattle.kssd_model.specs.declared.anchor.Anchor.{Anchor}
use Rattle.kssd_model.specs.Groups.{Walk, HasLog, seen, stop, log_in, rest_from, turn_count}
use Rattle.kssd_model.specs.Rising.{merged}
use Rattle.kssd_model.proofs.GroupsWalks.{log_in_is}
use Rattle.kssd_image.specs.Stages.{entries_of, log_map, runs_map, merged_by}
use Rattle.kssd_image.specs.AnchorForm.{IsAnchorForm, anchor_age, greatest, run_numbers}
use Rattle.kssd_log.specs.Ring.{begun}
use Rattle.kssd_root.specs.Standing.{EndsAt, table_of}
use Rattle.kssd_root.specs.Following.{IsCleanBlock}

empty_log : (image : Image) (block number : ℕ) → IsCleanBlock block image → HasLog image (32 * block) number [] [] 0 (32 * block) number
empty_log image block number clean =
    let first : 32 * block / 32 ≡ block = omega arith in
    record {
      pages = [];
      path = (refl, refl);
      stand = tt;
      ends = ap (seen (32 * block) number) (clean (32 * block) first);
      groups_are = refl;
      rest_is = refl;
      turns_are = refl;
    }

pub clean_log : (image : Image) (block number : ℕ) → IsCleanBlock block image → number < 2 ^ 64 → log_in image (32 * block) number ≡ stop (32 * block) number
unfolding empty_log
clean_log image block number clean low = log_in_is image (32 * block) number [] [] 0 (32 * block) number (empty_log image block number clean) low

pub clean_table : (image : Image) (anchor : Anchor) → IsCleanBlock anchor.log_block image → anchor.log_seq < 2 ^ 64 → table_of image anchor ≡ []
unfolding log_map
clean_table image anchor clean low = ap (λ (w : Walk). merged (entries_of (Rattle.kssd_model.specs.Groups.groups_from [] w.pages)) []) (clean_log image anchor.log_block anchor.log_seq clean low)

pub clean_merged : (image : Image) (anchor : Anchor) → IsCleanBlock anchor.log_block image → anchor.log_seq < 2 ^ 64 → merged_by image anchor ≡ runs_map image anchor.runs
unfolding merged_by
clean_merged image anchor clean low = ap (λ (es : List Entry). merged es (runs_map image anchor.runs)) (clean_table image anchor clean low)

pub clean_ends : (image : Image) (anchor : Anchor) → IsCleanBlock anchor.log_block image → anchor.log_seq < 2 ^ 64 → EndsAt (begun anchor.log_block anchor.log_seq) anchor image
clean_ends image anchor clean low =
    let is = clean_log image anchor.log_block anchor.log_seq clean low in
    record {
      page = ap (λ (w : Walk). w.end) is;
      number = ap (λ (w : Walk). w.next) is;
      whole = ap (λ (w : Walk). rest_from [] w.pages) is;
      blocks = ap (λ (w : Walk). turn_count w.pages + 8) is;
      free = record {
        here = clean (32 * anchor.log_block) (omega arith);
        earlier = λ q same less gone. absurd (omega arith);
        later = λ q same more. clean q (omega arith);
      };
    }

-- ---- numbers

greatest_below : (least : ℕ) (ns : List ℕ) → All (λ n. n < least) ns → greatest ns ≤ least
greatest_below least [] all = omega arith
greatest_below least (n ∷ ns) all = omega (arith, All-head (λ m. m < least) n ns all, greatest_below least ns (All-tail (λ m. m < least) n ns all))

-- no run has a number that counts
pub anchor_age_is : (blocks : ℕ) (anchor : Anchor) → IsAnchorForm blocks anchor → anchor_age anchor ≡ max anchor.number (max anchor.next_run anchor.log_seq)
anchor_age_is blocks anchor form =
    let below = greatest_below anchor.next_run (run_numbers anchor.runs) form.numbers_low in
    by anchor.number anchor.next_run anchor.log_seq (greatest (run_numbers anchor.runs)) below
  where
    by : (a b c d : ℕ) → d ≤ b → max a (max b (max c d)) ≡ max a (max b c)
    by a b c d h = omega arith
