-- The place of the next anchor, and what stands after each step of writing it.
use Rattle.std.proofs.Common.{◌≡◌, ◌≢◌, ◌∙◌, ℕ, ◌*◌, ◌/◌, ◌<◌, true, Option, Some, None, refl, sym, ap, arith, subst, inl, inr}
use Rattle.std.specs.Prelude.{MatchOption, IsSomeAnd}
use Rattle.std.specs.Option.{ForSome}
use Rattle.std.proofs.lemmas.Bool.{eq-eqb, ne_eqb}
use Rattle.kv_nand.specs.Flash.{Image, Erased, Whole, MayProgram, LeftByProgram, LeftByErase, with_page, with_erased}
use Rattle.kssd_model.specs.declared.anchor.Anchor.{Anchor}
use Rattle.kssd_model.specs.declared.anchor.Found.{Found}
use Rattle.kssd_model.specs.AnchorSpelling.{anchor_page, fits_anchor, HasSpelling}
use Rattle.kssd_model.specs.Anchors.{newest_in, IsNewest, HasNone, AreOlder}
use Rattle.kssd_model.proofs.NewestLaws.{newest_reads, newest_nothing, newest_erased, newest_left, newest_takes}
use Rattle.kssd_anchor.specs.Places.{other_block, IsAnchorPlace, CanFollow, IsWritten, IsOldOrGiven, SameBehind, IsLeftByPlace}

-- the anchor before is known
record Follows (image : Image) (last : ℕ) (a : Anchor) : Type 0 where
  found : Found
  is : newest_in image ≡ Some found
  page : found.page ≡ last
  number : found.anchor.number < a.number
  below : last < 64

follows : (image : Image) (last : ℕ) (a : Anchor) → CanFollow image (Some last) a → Follows image last a
follows image last a h = by (newest_in image) refl (newest_reads image 64) h
  where
    by : (r : Option Found) → newest_in image ≡ r → MatchOption r (HasNone image 64) (IsNewest image 64) → IsSomeAnd r (λ found. (found.page ≡ last) × (found.anchor.number < a.number)) → Follows image last a
    by None e none h = absurd h
    by (Some f) e is h = record { found = f; is = e; page = h.0; number = h.1; below = omega (arith, is.place, h.0) }

pub last_below : (image : Image) (last : Option ℕ) (a : Anchor) → CanFollow image last a → ForSome last (λ page. page < 64)
last_below image None a h = λ page e. absurd (let f : None ≡ Some page = e in cc)
last_below image (Some last) a h = λ page e. let same : last ≡ page = cc in omega (arith, (follows image last a h).below)

-- the image is ready for the program of the anchor in this page
pub record Ready (old mid : Image) (a : Anchor) (page : ℕ) : Type 0 where
  pub below : page < 64
  pub free : MayProgram mid page
  pub kept : newest_in mid ≡ newest_in old
  pub older : AreOlder (newest_in mid) a.number
  pub behind : SameBehind old mid

older_of : (image : Image) (last : ℕ) (a : Anchor) → Follows image last a → AreOlder (newest_in image) a.number
older_of image last a h = subst (λ r. AreOlder r a.number) (sym h.is) h.number

in_block : (old : Image) (block q : ℕ) → q / 32 ≡ block → with_erased old block q ≡ Erased
in_block old block q e = rw (eq-eqb (q / 32) block e) refl

not_in_block : (old : Image) (block q : ℕ) → q / 32 ≢ block → with_erased old block q ≡ old q
not_in_block old block q ne = rw (ne_eqb (q / 32) block ne) refl

left_erased : (old : Image) (block : ℕ) → LeftByErase old block (with_erased old block)
left_erased old block = record { elsewhere = not_in_block old block; here = λ q e. inr (inl (in_block old block q e)) }

first_page : (block : ℕ) → (32 * block) / 32 ≡ block
first_page block = omega arith

-- a block that was erased takes its first page
first_free : (old : Image) (block : ℕ) → MayProgram (with_erased old block) (32 * block)
first_free old block =
    let place : (32 * block) / 32 ≡ block = first_page block in
    record {
      here = in_block old block (32 * block) place;
      earlier = λ q e lt. absurd (omega (arith, place));
      later = λ q e lt. in_block old block q (e ∙ place);
    }

other_kept : (old new : Image) (last : ℕ) (a : Anchor) → Follows old last a → LeftByErase old (other_block (last / 32)) new → newest_in new ≡ newest_in old
other_kept old new last a h left =
    newest_erased old new (other_block (last / 32)) 64 left
    (subst (λ r. MatchOption r (Unit {0}) (λ f. f.page / 32 ≢ other_block (last / 32))) (sym h.is) (λ e. absurd (let d : last / 32 ≡ other_block (last / 32) = ap (λ p. p / 32) (sym h.page) ∙ e in omega (arith, h.below))))

erased_behind : (old new : Image) (block : ℕ) → block < 2 → LeftByErase old block new → SameBehind old new
erased_behind old new block lt left = λ q le. left.elsewhere q (λ e. absurd (omega arith))

no_anchor : (image : Image) → ((page : ℕ) → page < 64 → image page ≡ Erased) → newest_in image ≡ None
no_anchor image h = newest_nothing image 64 (λ page a lt stands. absurd (let e : Erased ≡ Whole (anchor_page a) = sym (h page lt) ∙ stands.state in cc))

-- the place that was found is ready
pub place_ready : (old mid : Image) (last : Option ℕ) (a : Anchor) (page : ℕ) → CanFollow old last a → IsAnchorPlace old last page mid → Ready old mid a page
place_ready old mid None a page h place =
    subst (λ image. Ready old image a page) (sym place.1) (subst (Ready old old a) (sym place.0) (record {
      below = omega arith;
      free = record { here = h 0 (omega arith); earlier = λ q e lt. absurd (omega arith); later = λ q e lt. h q (omega arith) };
      kept = refl;
      older = subst (λ r. AreOlder r a.number) (sym (no_anchor old h)) tt;
      behind = λ q le. refl;
    }))
place_ready old mid (Some last) a page h (inl there) =
    let before = follows old last a h in
    subst (λ image. Ready old image a page) (sym there.2) (record {
      below = omega (arith, there.0, before.below);
      free = there.1;
      kept = refl;
      older = older_of old last a before;
      behind = λ q le. refl;
    })
place_ready old mid (Some last) a page h (inr there) =
    let before = follows old last a h in
    let block = other_block (last / 32) in
    let left = left_erased old block in
    let kept = other_kept old (with_erased old block) last a before left in
    subst (λ image. Ready old image a page) (sym there.2) (subst (Ready old (with_erased old block) a) (sym there.1) (record {
      below = omega arith;
      free = first_free old block;
      kept = kept;
      older = subst (λ r. AreOlder r a.number) (sym kept) (older_of old last a before);
      behind = erased_behind old (with_erased old block) block (omega arith) left;
    }))

-- the search for a place stopped
pub place_stopped : (old new : Image) (last : Option ℕ) (a : Anchor) → CanFollow old last a → IsLeftByPlace old last new → (newest_in new ≡ newest_in old) × SameBehind old new
place_stopped old new None a h same = (ap newest_in same, λ q le. ap (λ (image : Image). image q) same)
place_stopped old new (Some last) a h (inl same) = (ap newest_in same, λ q le. ap (λ (image : Image). image q) same)
place_stopped old new (Some last) a h (inr left) = (other_kept old new last a (follows old last a h) left, erased_behind old new (other_block (last / 32)) (omega arith) left)

-- the program stopped, or was done
pub program_left : (old mid new : Image) (a : Anchor) (page : ℕ) → Ready old mid a page → LeftByProgram mid page (anchor_page a) new → fits_anchor a ≡ true → HasSpelling a → IsOldOrGiven old a new
program_left old mid new a page ready left fits spelling = elim (newest_left mid new page 64 a left ready.free.here ready.below fits spelling ready.older) [
  | inl same ↦ inl (same ∙ ready.kept)
  | inr given ↦ inr (page, given)
]

pub program_behind : (old mid new : Image) (a : Anchor) (page : ℕ) → Ready old mid a page → LeftByProgram mid page (anchor_page a) new → SameBehind old new
program_behind old mid new a page ready left = λ q le. left.elsewhere q (λ e. absurd (omega (arith, ready.below))) ∙ ready.behind q le

pub program_done : (old mid new : Image) (last : Option ℕ) (a : Anchor) (page : ℕ) → IsAnchorPlace old last page mid → Ready old mid a page → new ≡ with_page mid page (Whole (anchor_page a)) → fits_anchor a ≡ true → HasSpelling a → IsWritten old last a page new
program_done old mid new last a page place ready is fits spelling = record {
  ready = mid;
  place = place;
  after = is;
  newest = newest_takes mid new page 64 a (λ q ne. ap (λ (image : Image). image q) is ∙ other q ne) ready.below (record { state = ap (λ (image : Image). image page) is ∙ here; fits = fits; spelling = spelling }) ready.older;
}
  where
    here : with_page mid page (Whole (anchor_page a)) page ≡ Whole (anchor_page a)
    here = rw (eq-eqb page page refl) refl

    other : (q : ℕ) → q ≢ page → with_page mid page (Whole (anchor_page a)) q ≡ mid q
    other q ne = rw (ne_eqb q page ne) refl
