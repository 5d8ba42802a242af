-- The numbers of a sound image are far from their end.
use Rattle.std.proofs.Common.{◌≡◌, ℕ, ◌+◌, ◌*◌, ◌/◌, ◌%◌, ◌<◌, ◌≤◌, ◌≢◌, ◌^◌, Bool, true, false, cond, eqb, List, [], ◌∷◌, length, Some, refl, ap, arith}
use Rattle.kv_nand.specs.Flash.{Image}
use Rattle.kssd_model.specs.declared.anchor.Anchor.{Anchor}
use Rattle.kssd_model.specs.Groups.{LogPage, next_block, next_place, Path, WithinBlocks, rest_from, turn_count}
use Rattle.kssd_model.specs.GroupsLaws.{HasBytes}
use Rattle.kssd_model.proofs.GroupsPaths.{not_last}
use Rattle.kssd_model.proofs.GroupsWalks.{path_counts, log_from_walk}
use Rattle.kssd_model.specs.Anchors.{newest_in}
use Rattle.kssd_image.specs.AnchorForm.{HasLowNumbers}
use Rattle.kssd_image.specs.Whole.{log_of, IsLogWhole, Sound, age_in}
use Rattle.kssd_image.proofs.OneDamage.{clear_from_sound}
use Rattle.kssd_root.proofs.Anchored.{age_is}

-- at most 16 turn pages
few_turns : (turns : ℕ) (xs : List LogPage) → turns ≤ 16 → WithinBlocks turns xs → turns + turn_count xs ≤ 16
few_turns turns [] few within = omega arith
few_turns turns (x ∷ xs) few within = by (eqb x.flags 2) (few_turns (turns + cond (eqb x.flags 2) 1 0) xs) within.0 within.1
  where
    by : (b : Bool) → (turns + cond b 1 0 ≤ 16 → WithinBlocks (turns + cond b 1 0) xs → turns + cond b 1 0 + turn_count xs ≤ 16) → turns < 16 → WithinBlocks (turns + cond b 1 0) xs → turns + (cond b 1 0 + turn_count xs) ≤ 16
    by true rest low h = let more = rest (omega arith) h in omega arith
    by false rest low h = let more = rest (omega arith) h in omega arith

turned : (len page place block turns more end : ℕ) → more ≡ 1 → place ≡ 32 * block → len + place % 32 ≤ 32 * turns + end % 32 → 1 + len + page % 32 ≤ 32 * (more + turns) + end % 32
turned len page place block turns more end one at rest = omega arith

went_on : (len page place turns more end : ℕ) → more ≡ 0 → place ≡ page + 1 → page % 32 ≢ 31 → len + place % 32 ≤ 32 * turns + end % 32 → 1 + len + page % 32 ≤ 32 * (more + turns) + end % 32
went_on len page place turns more end none at inner rest = omega arith

-- a block has 32 pages
few_pages : (image : Image) (page number : ℕ) (xs : List LogPage) (end next : ℕ) → Path image page number xs end next → length xs + page % 32 ≤ 32 * turn_count xs + end % 32
few_pages image page number [] end next path = let here : end % 32 ≡ page % 32 = ap (λ (n : ℕ). n % 32) path.0 in omega arith
few_pages image page number (x ∷ xs) end next path = by (eqb x.flags 2) refl (few_pages image (next_place page x) (number + 1) xs end next path.1)
  where
    by : (b : Bool) → eqb x.flags 2 ≡ b → length xs + next_place page x % 32 ≤ 32 * turn_count xs + end % 32 → length (x ∷ xs) + page % 32 ≤ 32 * turn_count (x ∷ xs) + end % 32
    by true is rest = let t = turned (length xs) page (next_place page x) (next_block (page / 32)) (turn_count xs) (cond (eqb x.flags 2) 1 0) end (ap {B = ℕ} (λ b. cond b 1 0) is) (ap {B = ℕ} (λ b. cond b (32 * next_block (page / 32)) (page + 1)) is) rest in omega arith
    by false is rest = let t = went_on (length xs) page (next_place page x) (turn_count xs) (cond (eqb x.flags 2) 1 0) end (ap {B = ℕ} (λ b. cond b 1 0) is) (ap {B = ℕ} (λ b. cond b (32 * next_block (page / 32)) (page + 1)) is) (not_last page number (image page) x path.0 is) rest in omega arith

-- a log has at most 512 pages, and its last block may have begun
few_numbers : (image : Image) (anchor : Anchor) → HasBytes image → IsLogWhole image (log_of image anchor) → (log_of image anchor).next ≤ anchor.log_seq + 543
few_numbers image anchor has whole =
    let start = 32 * anchor.log_block in
    let walk = log_of image anchor in
    let log = log_from_walk image start anchor.log_seq walk.end walk.next (rest_from [] walk.pages) has refl refl whole.ends refl in
    let turns = few_turns 0 walk.pages (omega arith) whole.allowed.blocks in
    let same = log.turns_are in
    let pages = few_pages image start anchor.log_seq log.pages walk.end walk.next log.path in
    let count = path_counts image start anchor.log_seq log.pages walk.end walk.next log.path in
    omega arith

log_seq_low : (anchor : Anchor) → HasLowNumbers anchor → anchor.log_seq < 2 ^ 62
log_seq_low anchor low = omega (arith, low)

pub far_from_end : (blocks : ℕ) (image : Image) (page : ℕ) (anchor : Anchor) → HasBytes image → Sound blocks image → newest_in image ≡ Some (record { page = page; anchor = anchor }) → age_in image + 2 ^ 20 ≤ 2 ^ 63
far_from_end blocks image page anchor has sound newest =
    let clear = clear_from_sound blocks image (record { page = page; anchor = anchor }) newest sound in
    let next = few_numbers image anchor has clear.log in
    let seq = log_seq_low anchor clear.anchor.numbers in
    let age = age_is page anchor image newest in
    omega (arith, clear.anchor.numbers)

-- and at most so great
pub low_age : (blocks : ℕ) (image : Image) (page : ℕ) (anchor : Anchor) → HasBytes image → Sound blocks image → newest_in image ≡ Some (record { page = page; anchor = anchor }) → age_in image ≤ 2 ^ 62 + 2 ^ 10
low_age blocks image page anchor has sound newest =
    let clear = clear_from_sound blocks image (record { page = page; anchor = anchor }) newest sound in
    let next = few_numbers image anchor has clear.log in
    let seq = log_seq_low anchor clear.anchor.numbers in
    let age = age_is page anchor image newest in
    omega (arith, clear.anchor.numbers)
