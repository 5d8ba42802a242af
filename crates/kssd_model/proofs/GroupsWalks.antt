-- The log as a function of the image, and the log as a path.
use Rattle.std.proofs.Common.{◌≡◌, ◌∙◌, ℕ, zero, suc, ◌+◌, ◌<◌, ◌≤◌, ◌^◌, List, [], ◌∷◌, length, refl, sym, ap, subst, arith}
use Rattle.kv_nand.specs.Flash.{Image}
use Rattle.kssd_entry.specs.declared.entry.Entry.{Entry}
use Rattle.kssd_model.specs.Groups.{LogPage, LogSeen, Ends, Holds, Broken, seen, next_place, Path, HasLog, Walk, stop, with_first, walk, log_in, groups_from, groups_in, rest_from, turn_count}
use Rattle.kssd_model.proofs.GroupsPaths.{behind}
use Rattle.kssd_model.proofs.GroupsPages.{path_stands}
use Rattle.kssd_model.specs.GroupsLaws.{HasBytes}

walk_is : (most : ℕ) (image : Image) (page number : ℕ) (xs : List LogPage) (end next : ℕ) → length xs ≤ most → Path image page number xs end next → seen end next (image end) ≡ Ends → walk most image page number ≡ record { pages = xs; end = end; next = next }
unfolding walk
walk_is zero image page number [] end next le path ends = λ i. record { pages = []; end = sym path.0 i; next = sym path.1 i }
walk_is (suc most) image page number [] end next le path ends =
    let here : seen page number (image page) ≡ Ends = subst (λ (p : ℕ × ℕ). seen p.0 p.1 (image p.0) ≡ Ends) (λ i. (path.0 i, path.1 i)) ends in
    rw (here, walk) (λ i. record { pages = []; end = sym path.0 i; next = sym path.1 i })
walk_is zero image page number (x ∷ xs) end next le path ends = absurd (omega arith)
walk_is (suc most) image page number (x ∷ xs) end next le path ends =
    let rest = walk_is most image (next_place page x) (number + 1) xs end next (omega arith) path.1 ends in
    rw (path.0, walk) (ap (with_first x) rest)

-- the numbers of a path count its pages
pub path_counts : (image : Image) (page number : ℕ) (xs : List LogPage) (end next : ℕ) → Path image page number xs end next → number + length xs ≡ next
path_counts image page number [] end next path = omega (arith, path.1)
path_counts image page number (x ∷ xs) end next path = omega (arith, path_counts image (next_place page x) (number + 1) xs end next path.1)

pub log_in_is : (image : Image) (page number : ℕ) (groups : List (List Entry)) (rest : List Entry) (turns end next : ℕ) → (log : HasLog image page number groups rest turns end next) → next < 2 ^ 64 → log_in image page number ≡ record { pages = log.pages; end = end; next = next }
unfolding log_in
log_in_is image page number groups rest turns end next log h = walk_is (2 ^ 64) image page number log.pages end next (omega (arith, path_counts image page number log.pages end next log.path)) log.path log.ends

pub groups_in_log : (image : Image) (page number : ℕ) (groups : List (List Entry)) (rest : List Entry) (turns end next : ℕ) → HasLog image page number groups rest turns end next → next < 2 ^ 64 → groups_in image page number ≡ groups
groups_in_log image page number groups rest turns end next log h = ap (λ w. groups_from [] w.pages) (log_in_is image page number groups rest turns end next log h) ∙ log.groups_are

path_of_walk : (most : ℕ) (image : Image) (page number : ℕ) → Path image page number (walk most image page number).pages (walk most image page number).end (walk most image page number).next
unfolding walk
path_of_walk zero image page number = (refl, refl)
path_of_walk (suc most) image page number = by (seen page number (image page)) refl (λ x. path_of_walk most image (next_place page x) (number + 1))
  where
    by : (s : LogSeen) → seen page number (image page) ≡ s → ((x : LogPage) → Path image (next_place page x) (number + 1) (walk most image (next_place page x) (number + 1)).pages (walk most image (next_place page x) (number + 1)).end (walk most image (next_place page x) (number + 1)).next)
        → let w : Walk = elim s [ Ends ↦ stop page number | Broken ↦ stop page number | Holds x ↦ with_first x (walk most image (next_place page x) (number + 1)) ] in Path image page number w.pages w.end w.next
    by Ends e rest = (refl, refl)
    by Broken e rest = (refl, refl)
    by (Holds x) e rest = (e, rest x)

-- where the log as a function ends at a page that is no log page, it is this log
pub log_from_walk : (image : Image) (page number end next : ℕ) (rest : List Entry) → HasBytes image → (log_in image page number).end ≡ end → (log_in image page number).next ≡ next → seen end next (image end) ≡ Ends → rest_from [] (log_in image page number).pages ≡ rest
    → HasLog image page number (groups_in image page number) rest (turn_count (log_in image page number).pages) end next
unfolding log_in
log_from_walk image page number end next rest has e n ends r =
    let path = subst (λ (p : ℕ × ℕ). Path image page number (log_in image page number).pages p.0 p.1) (λ i. (e i, n i)) (path_of_walk (2 ^ 64) image page number) in
    record {
      pages = (log_in image page number).pages;
      path = path;
      stand = path_stands image page number (log_in image page number).pages end next has path;
      ends = ends;
      groups_are = refl;
      rest_is = r;
      turns_are = refl;
    }

-- the log depends on the pages of the ring alone
walk_same : (most : ℕ) (old new : Image) (page number : ℕ) → ((q : ℕ) → 64 ≤ q → q < 640 → new q ≡ old q) → 64 ≤ page → page < 640 → walk most new page number ≡ walk most old page number
unfolding walk
walk_same zero old new page number same low high = refl
walk_same (suc most) old new page number same low high =
    ap (λ (s : LogSeen). step_of s (walk most new)) (ap (seen page number) (same page low high)) ∙ by (seen page number (old page)) refl (λ x lo hi. walk_same most old new (next_place page x) (number + 1) same lo hi)
  where
    step_of : LogSeen → (ℕ → ℕ → Walk) → Walk
    step_of s go = elim s [ Ends ↦ stop page number | Broken ↦ stop page number | Holds x ↦ with_first x (go (next_place page x) (number + 1)) ]

    by : (s : LogSeen) → seen page number (old page) ≡ s → ((x : LogPage) → 64 ≤ next_place page x → next_place page x < 640 → walk most new (next_place page x) (number + 1) ≡ walk most old (next_place page x) (number + 1)) → step_of s (walk most new) ≡ step_of s (walk most old)
    by Ends e rest = refl
    by Broken e rest = refl
    by (Holds x) e rest = let b = behind page number (old page) x e low high in ap (with_first x) (rest x b.0 b.1)

pub log_in_same : (old new : Image) (page number : ℕ) → ((q : ℕ) → 64 ≤ q → q < 640 → new q ≡ old q) → 64 ≤ page → page < 640 → log_in new page number ≡ log_in old page number
unfolding log_in
log_in_same old new page number same low high = walk_same (2 ^ 64) old new page number same low high
