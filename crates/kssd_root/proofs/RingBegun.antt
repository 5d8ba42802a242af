-- The ring block behind a log is erased for the next log.
use Rattle.std.proofs.Common.{true, false, ◌≡◌, ◌∙◌, ℕ, ◌+◌, ◌*◌, ◌/◌, ◌%◌, ◌<◌, ◌≤◌, ◌^◌, Bool, cond, eqb, List, [], ◌∷◌, ◌++◌, length, refl, sym, ap, subst, arith, inl, inr}
use Rattle.std.proofs.lemmas.Bool.{cases_lt}
use Rattle.kv_nand.specs.Flash.{Image, Flash, Erased}
use Rattle.kssd_entry.specs.declared.entry.Entry.{Entry}
use Rattle.kssd_model.specs.declared.anchor.Anchor.{Anchor}
use Rattle.kssd_model.proofs.GroupsPaths.{next_in_ring}
use Rattle.kssd_model.specs.Groups.{LogPage, Walk, Path, HasLog, WithinBlocks, next_place, next_block, AreAllowed, logged, key_set, rest_from, turn_count}
use Rattle.kssd_model.specs.GroupsLaws.{HasBytes}
use Rattle.kssd_model.proofs.GroupsWalks.{log_in_is}
use Rattle.kssd_image.proofs.LogDamage.{path_is_short, turns_within}
use Rattle.kssd_image.specs.Stages.{entries_of}
use Rattle.kssd_image.specs.Whole.{log_of, IsLogWhole, age_by, age_in}
use Rattle.kssd_log.specs.Ring.{begun}
use Rattle.kssd_log.specs.Append.{IsLogPlace, StaysOutside, KeepsLogs}
use Rattle.kssd_frames.specs.Logging.{groups_by}
use Rattle.kssd_frames.proofs.ShownLaws.{all_logged}
use Rattle.kssd_frames.proofs.SameImages.{log_ends_in_ring}
use Rattle.kssd_frames.proofs.Groups.{log_stands}
use Rattle.kssd_root.specs.declared.root.Root.{Root}
use Rattle.kssd_root.specs.Standing.{IsAnchored, IsRoot, table_of}
use Rattle.kssd_root.specs.Mapping.{IsKept}
use Rattle.kssd_root.specs.Following.{IsCleanBlock}
use Rattle.kssd_root.proofs.Anchored.{age_is}
use Rattle.kssd_root.proofs.Kept.{kept_by}
use Rattle.kssd_root.proofs.Runs.{runs_stand, pages_outside}
use Rattle.kssd_root.proofs.Logs.{KeepsBy, ring_keeps, ring_values}

-- a log within 16 blocks that has 16 turns ends in page 0 of a block
ends_first : (image : Image) (turns page number : ℕ) (xs : List LogPage) (end next : ℕ) → Path image page number xs end next → WithinBlocks turns xs → (turns ≡ 16 → page % 32 ≡ 0) → turns + turn_count xs ≡ 16 → end % 32 ≡ 0
ends_first image turns page number [] end next path within first all = ap (λ n. n % 32) path.0 ∙ first (omega (arith, all))
ends_first image turns page number (x ∷ xs) end next path within first all = by (eqb x.flags 2) refl (λ first_then. ends_first image (turns + cond (eqb x.flags 2) 1 0) (next_place page x) (number + 1) xs end next path.1 within.1 first_then (omega (arith, all)))
  where
    by : (b : Bool) → eqb x.flags 2 ≡ b → ((turns + cond (eqb x.flags 2) 1 0 ≡ 16 → next_place page x % 32 ≡ 0) → end % 32 ≡ 0) → end % 32 ≡ 0
    by true e rest = rest (λ more.
        let place : next_place page x ≡ 32 * next_block (page / 32) = ap (λ b. cond b (32 * next_block (page / 32)) (page + 1)) e in
        omega (arith, ap (λ n. n % 32) place))
    by false e rest = rest (λ more. absurd (omega (arith, within.0, more, ap (λ (b : Bool). let n : ℕ = cond b 1 0 in n) e)))

-- and one that has 16 turns and ends there is within 16 blocks
within_16 : (image : Image) (turns page number : ℕ) (xs : List LogPage) (end next : ℕ) → Path image page number xs end next → turns + turn_count xs ≤ 16 → (turns + turn_count xs ≡ 16 → end % 32 ≡ 0) → WithinBlocks turns xs
within_16 image turns page number [] end next path few last = tt
within_16 image turns page number (x ∷ xs) end next path few last = (
  elim (cases_lt turns 16) [
    | inl lt ↦ lt
    | inr le ↦
        let all : turns + turn_count (x ∷ xs) ≡ 16 = omega (arith, few) in
        absurd (omega (arith, path_is_short image page number (x ∷ xs) end next path, last all, all))
  ],
  within_16 image (turns + cond (eqb x.flags 2) 1 0) (next_place page x) (number + 1) xs end next path.1 (omega (arith, few)) (λ all. last (omega (arith, all))),
)

allowed_again : (old new : Image) (page number : ℕ) (groups : List (List Entry)) (rest : List Entry) (turns end next : ℕ) → page % 32 ≡ 0 → (was : HasLog old page number groups rest turns end next) → (now : HasLog new page number groups rest turns end next) → AreAllowed was.pages → AreAllowed now.pages
allowed_again old new page number groups rest turns end next start was now allowed =
    let all : turn_count was.pages ≡ turn_count now.pages = was.turns_are ∙ sym now.turns_are in
    let keys : logged now.pages ≡ logged was.pages =
    sym (all_logged [] now.pages) ∙ (λ i. entries_of (now.groups_are i) ++ now.rest_is i) ∙ (λ i. entries_of (sym was.groups_are i) ++ sym was.rest_is i) ∙ all_logged [] was.pages in
    record {
      blocks = within_16 new 0 page number now.pages end next now.path (omega (arith, turns_within 0 was.pages allowed.blocks (omega arith), all))
          (λ sixteen. ends_first old 0 page number was.pages end next was.path allowed.blocks (λ e. start) (omega (arith, sixteen, all)));
      keys = omega (arith, allowed.keys, ap (λ (es : List Entry). length (key_set [] es)) keys);
    }

pub log_kept : (page : ℕ) (anchor : Anchor) (blocks : ℕ) (old new : Image) (last : ℕ) → HasBytes old → IsAnchored page anchor blocks old → (log_of old anchor).end / 32 ≡ last → (log_of old anchor).next < 2 ^ 64
    → KeepsLogs last old new → StaysOutside old new → KeepsBy page anchor blocks old new (log_of old anchor).next
log_kept page anchor blocks old new last has h at low keeps outside =
    let groups = groups_by old anchor in
    let rest = rest_from [] (log_of old anchor).pages in
    let turns = turn_count (log_of old anchor).pages in
    let end = (log_of old anchor).end in
    let next = (log_of old anchor).next in
    let form = h.index.form in
    let start = 32 * anchor.log_block in
    let was = log_stands blocks old anchor has h.index in
    let few = turns_within 0 (log_of old anchor).pages h.index.log.allowed.blocks (omega arith) in
    let now = keeps start anchor.log_seq turns end next groups rest (record { low = omega (arith, form.log_low); high = omega (arith, form.log_high) }) (omega (arith, few)) at was in
    let is = log_in_is new start anchor.log_seq groups rest turns end next now low in
    let was_is = log_in_is old start anchor.log_seq groups rest turns end next was low in
    let allowed = allowed_again old new start anchor.log_seq groups rest turns end next (omega arith) was now (subst (λ (w : Walk). AreAllowed w.pages) was_is h.index.log.allowed) in
    ring_keeps page anchor blocks old new rest next h outside (record {
      turns = turns;
      end = end;
      log = now;
      fits = low;
      whole = subst (λ (w : Walk). IsLogWhole new w) (sym is) (record { allowed = allowed; ends = now.ends });
    })

pub seq_low : (anchor : Anchor) (image : Image) → age_by image anchor + 2 ^ 19 ≤ 2 ^ 63 → (log_of image anchor).next < 2 ^ 63
seq_low anchor image low = omega (arith, low)

pub last_in_ring : (page : ℕ) (anchor : Anchor) (blocks : ℕ) (image : Image) (last : ℕ) → IsAnchored page anchor blocks image → last ≡ (log_of image anchor).end / 32 → (2 ≤ last) × (last ≤ 19)
last_in_ring page anchor blocks image last h e =
    let form = h.index.form in
    let p = log_ends_in_ring image (32 * anchor.log_block) anchor.log_seq (omega (arith, form.log_low)) (omega (arith, form.log_high)) in
    (omega (arith, p.0, e), omega (arith, p.1, e))

pub clean_from : (flash : Flash) (block seq : ℕ) → IsLogPlace flash (begun block seq) → IsCleanBlock block flash.image
clean_from flash block seq h q at = elim (cases_lt (32 * block) q) [
  | inl more ↦ h.free.later q (omega (arith, at)) more
  | inr le ↦ let e : 32 * block ≡ q = omega (arith, at) in subst (λ (p : ℕ). flash.image p ≡ Erased) e h.free.here
]

-- ---- what is left of a root

-- the ring's block is erased or half erased; the root stands, with the same table
pub record IsLeft (root : Root) (blocks : ℕ) (old new : Image) : Type 0 where
  pub stands : IsRoot root blocks new
  pub table : table_of new root.anchor ≡ table_of old root.anchor
  pub kept : IsKept blocks old new
  pub age_is : age_by new root.anchor ≡ age_by old root.anchor
  pub aged : age_in new ≤ age_by old root.anchor

pub ring_left : (root : Root) (blocks : ℕ) (old new : Image) (last : ℕ) → HasBytes old → IsRoot root blocks old → last ≡ (log_of old root.anchor).end / 32 → age_by old root.anchor + 2 ^ 19 ≤ 2 ^ 63
    → KeepsLogs last old new → StaysOutside old new → IsLeft root blocks old new
ring_left root blocks old new last has h at low keeps outside =
    let a = h.anchored in
    let k = log_kept root.page root.anchor blocks old new last has a (sym at) (omega (arith, seq_low root.anchor old low)) keeps outside in
    record {
      stands = record {
        device = h.device;
        anchored = k.anchored;
        runs = runs_stand root.levels root.anchor blocks old new (pages_outside blocks old new root.anchor a.index.form outside) h.runs;
      };
      table = k.table;
      kept = kept_by root.page root.anchor blocks old new a k.anchored k.shown (ring_values blocks old new outside);
      age_is = omega (arith, k.age_is);
      aged = omega (arith, age_is root.page root.anchor new k.anchored.newest, k.age_is);
    }

pub next_in : (page : ℕ) (anchor : Anchor) (blocks : ℕ) (image : Image) (last : ℕ) → IsAnchored page anchor blocks image → last ≡ (log_of image anchor).end / 32 → (2 ≤ next_block last) × (next_block last ≤ 19)
next_in page anchor blocks image last h at =
    let in_ring = last_in_ring page anchor blocks image last h at in
    let n = next_in_ring last in_ring.0 (omega (arith, in_ring.1)) in
    (omega (arith, n.1), omega (arith, n.2))
