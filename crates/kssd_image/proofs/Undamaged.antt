-- An image to which no damage applies is sound.
use Rattle.std.proofs.Common.{◌≡◌, ℕ, zero, suc, ◌+◌, ◌-◌, ◌*◌, ◌<◌, ◌≤◌, ◌^◌, Bool, true, false, not, ◌&&◌, ◌||◌, eqb, List, [], ◌∷◌, ◌++◌, length, Option, Some, None, refl, sym, ap, subst, arith, inl, inr, append_assoc, length-append}
use Rattle.std.specs.List.{All, AllByRecursion, IsDistinct, list_all, list_any}
use Rattle.std.proofs.lemmas.Bool.{cases_lt, cases_eq, cases_Bool, and_from, or_parts, eq-eqb}
use Rattle.std.proofs.lemmas.List.{append-nil}
use Rattle.std.proofs.lemmas.List.Elements.{All-nil, All-cons}
use Rattle.kv_base.specs.declared.damage.Damage.{Damage}
use Rattle.kv_base.specs.declared.damage.Damage.TheVariants as damages
use Rattle.kv_nand.specs.Flash.{Image}
use Rattle.kssd_layout.specs.declared.region.Region.{Region}
use Rattle.kssd_layout.specs.declared.region.Region.TheVariants.{Anchor, Log, Run, Value}
use Rattle.kssd_entry.specs.declared.entry.Entry.{Entry}
use Rattle.kssd_entry.specs.declared.entry.Entry.TheVariants.{Put, At, Gone}
use Rattle.kssd_model.specs.declared.runs.RunInfo.{RunInfo}
use Rattle.kssd_model.specs.declared.anchor.Anchor as model
use Rattle.kssd_model.specs.declared.anchor.Found.{Found}
use Rattle.kssd_model.specs.Anchors.{newest_in}
use Rattle.kssd_model.specs.RunPages.{run_page, is_good_page, AreGoodPages, IsGoodRun, IsBadRunAt}
use Rattle.kssd_model.specs.Groups.{LogPage, LogSeen, Ends, Holds, Broken, seen, next_place, Path, stop, with_first, walk, log_in, turn_count, different_keys, AreAllowed, IsRefused, IsDamaged}
use Rattle.kssd_model.proofs.GroupsPaths.{path_more}
use Rattle.kssd_model.proofs.GroupsDamage.{within_one_more}
use Rattle.kssd_image.specs.Stages.{shown_by}
use Rattle.kssd_image.specs.AnchorForm.{IsRunForm, AreOnLevels, run_numbers, blocks_of}
use Rattle.kssd_image.specs.Whole.{IsLogWhole, page_named, has_its_value, Sound}
use Rattle.kssd_image.specs.Damages.{IsFirst, IsAnchorFit, IsBadRunOf, lacks_value, is_passed, IsDamageOf, IsDamageBy, IsDamage}
use Rattle.kssd_image.proofs.LogDamage.{behind_all, path_is_short, turns_within}
use Rattle.kssd_image.proofs.OneDamage.{sound_from_clear}

-- ---- what can't fail to hold, holds

abbrev CantFail : Type 0 → Type 0
CantFail P = (P → ⊥) → ⊥

sure_le : (m n : ℕ) → CantFail (m ≤ n) → m ≤ n
sure_le m n h = elim (cases_lt n m) [ inl lt ↦ absurd (h (λ le. omega arith)) | inr le ↦ le ]

sure_lt : (m n : ℕ) → CantFail (m < n) → m < n
sure_lt m n h = elim (cases_lt m n) [ inl lt ↦ lt | inr le ↦ absurd (h (λ lt. omega arith)) ]

sure_eq : (m n : ℕ) → CantFail (m ≡ n) → m ≡ n
sure_eq m n h = elim (cases_eq m n) [ inl e ↦ e | inr ne ↦ absurd (h ne) ]

sure_false : (b : Bool) → CantFail (b ≡ false) → b ≡ false
sure_false false h = refl
sure_false true h = absurd (h (λ e. cc))

sure_run : (r : Region) → CantFail (r ≡ Run) → r ≡ Run
sure_run Anchor h = absurd (h (λ e. cc))
sure_run Log h = absurd (h (λ e. cc))
sure_run Run h = refl
sure_run Value h = absurd (h (λ e. cc))

sure_apart : (x : ℕ) (xs : List ℕ) → CantFail (AllByRecursion (λ y. eqb x y ≡ false) xs) → AllByRecursion (λ y. eqb x y ≡ false) xs
sure_apart x [] h = tt
sure_apart x (y ∷ xs) h = (sure_false (eqb x y) (λ n. h (λ p. n p.0)), sure_apart x xs (λ n. h (λ p. n p.1)))

sure_distinct : (xs : List ℕ) → CantFail (IsDistinct eqb xs) → IsDistinct eqb xs
unfolding IsDistinct
sure_distinct [] h = tt
sure_distinct (x ∷ xs) h = (sure_apart x xs (λ n. h (λ p. n p.0)), sure_distinct xs (λ n. h (λ p. n p.1)))

sure_run_form : (blocks : ℕ) (run : RunInfo) → CantFail (IsRunForm blocks run) → IsRunForm blocks run
sure_run_form blocks run h = record {
  entries_some = sure_le _ _ (λ n. h (λ f. n f.entries_some));
  entries_most = sure_le _ _ (λ n. h (λ f. n f.entries_most));
  pages_some = sure_le _ _ (λ n. h (λ f. n f.pages_some));
  pages_most = sure_le _ _ (λ n. h (λ f. n f.pages_most));
  block_count = sure_eq _ _ (λ n. h (λ f. n f.block_count));
  region = λ k d lt. sure_run _ (λ n. h (λ f. n (f.region k d lt)));
}

sure_levels : (runs : List RunInfo) → CantFail (AreOnLevels runs) → AreOnLevels runs
sure_levels runs h = record {
  known = λ k d lt. sure_le _ _ (λ n. h (λ f. n (f.known k d lt)));
  order = λ i j d less lt. sure_le _ _ (λ n. h (λ f. n (f.order i j d less lt)));
  level_0 = sure_le _ _ (λ n. h (λ f. n f.level_0));
  level_1 = sure_le _ _ (λ n. h (λ f. n f.level_1));
  base = sure_le _ _ (λ n. h (λ f. n f.base));
}

sure_fit : (blocks : ℕ) (anchor : model.Anchor) → CantFail (IsAnchorFit blocks anchor) → IsAnchorFit blocks anchor
sure_fit blocks anchor h = record {
  form = record {
    device = sure_eq _ _ (λ n. h (λ f. n f.form.device));
    log_low = sure_le _ _ (λ n. h (λ f. n f.form.log_low));
    log_high = sure_le _ _ (λ n. h (λ f. n f.form.log_high));
    levels = sure_levels anchor.runs (λ n. h (λ f. n f.form.levels));
    runs = λ k d lt. sure_run_form blocks _ (λ n. h (λ f. n (f.form.runs k d lt)));
    blocks_differ = sure_distinct (blocks_of anchor.runs) (λ n. h (λ f. n f.form.blocks_differ));
    numbers_differ = sure_distinct (run_numbers anchor.runs) (λ n. h (λ f. n f.form.numbers_differ));
    numbers_low = λ k d lt. sure_lt _ _ (λ n. h (λ f. n (f.form.numbers_low k d lt)));
  };
  numbers = sure_lt _ _ (λ n. h (λ f. n f.numbers));
}

-- ---- without a first, there is none

none_passes : (test : ℕ → Bool) → ((n : ℕ) → IsFirst test n → ⊥) → (n : ℕ) → test n ≡ false
none_passes test never n = below (suc n) n (omega arith)
  where
    below : (n k : ℕ) → k < n → test k ≡ false
    below zero k lt = absurd (omega arith)
    below (suc n) k lt = here (below n)
      where
        here : ((k : ℕ) → k < n → test k ≡ false) → test k ≡ false
        here before = elim (cases_lt k n) [
          | inl less ↦ before k less
          | inr le ↦ elim (cases_Bool (test k)) [
            | inl e ↦ absurd (never k (record { here = e; earlier = λ j less. before j (omega arith) }))
            | inr e ↦ e
          ]
        ]

-- ---- runs

good_pages : (image : Image) (run : RunInfo) → ((page : ℕ) → IsBadRunAt image run page → ⊥) → (n : ℕ) → n ≤ run.pages → AreGoodPages image run n
good_pages image run never zero le = λ i lt. absurd (omega arith)
good_pages image run never (suc n) le = by (good_pages image run never n (omega arith))
  where
    by : AreGoodPages image run n → AreGoodPages image run (suc n)
    by before = λ i lt. elim (cases_lt i n) [
      | inl less ↦ before i less
      | inr more ↦ elim (cases_Bool (is_good_page image run i)) [
        | inl e ↦ e
        | inr e ↦ absurd (never (run_page run.blocks i) (inl (i, record { within = omega arith; earlier = λ j less. before j (omega arith); bad = e; place = refl })))
      ]
    ]

good_run : (image : Image) (run : RunInfo) → ((page : ℕ) → IsBadRunAt image run page → ⊥) → IsGoodRun image run
good_run image run never =
    let pages = good_pages image run never run.pages (omega arith) in
    record { pages = pages; count = sure_eq _ _ (λ n. never (run_page run.blocks (run.pages - 1)) (inr (record { pages = pages; count = n; place = refl }))) }

good_runs : (image : Image) (runs : List RunInfo) → ((page : ℕ) → IsBadRunOf image runs page → ⊥) → All (IsGoodRun image) runs
good_runs image [] never = All-nil (IsGoodRun image)
good_runs image (run ∷ runs) never =
    let first = good_run image run (λ page bad. never page (inl bad)) in
    All-cons (IsGoodRun image) run runs first (good_runs image runs (λ page bad. never page (inr (first, bad))))

-- ---- the log

whole_behind : (k : ℕ) (image : Image) (page number : ℕ) (xs : List LogPage) (at next : ℕ) → ((p : ℕ) → IsDamaged image page number p → ⊥) → length xs + k ≡ 2 ^ 64 → Path image page number xs at next → AreAllowed xs → IsLogWhole image (behind_all xs (walk k image at next))
unfolding walk
whole_behind zero image page number xs at next never count path allowed =
    let few = path_is_short image page number xs at next path in
    let turns = turns_within 0 xs allowed.blocks (omega arith) in
    absurd (omega arith)
whole_behind (suc k) image page number xs at next never count path allowed =
    by (seen at next (image at)) refl (λ x h ok. whole_behind k image page number (xs ++ x ∷ []) (next_place at x) (next + 1) never (omega (arith, length-append xs (x ∷ []))) (path_more image page number xs at next x path h) ok)
  where
    damaged : (s : LogSeen) → seen at next (image at) ≡ s → IsRefused (turn_count xs) xs s → ⊥
    damaged s e cause = never at (record { pages = xs; next = next; path = path; before = allowed; cause = subst (IsRefused (turn_count xs) xs) (sym e) cause })

    more : (x : LogPage) → seen at next (image at) ≡ Holds x → AreAllowed (xs ++ x ∷ [])
    more x e = record {
      blocks = within_one_more 0 xs x allowed.blocks (sure_lt _ _ (λ n. damaged (Holds x) e (inl (let le : 16 ≤ turn_count xs = elim (cases_lt (turn_count xs) 16) [ inl lt ↦ absurd (n (omega arith)) | inr le ↦ le ] in le))));
      keys = sure_le _ _ (λ n. damaged (Holds x) e (inr (let gt : 2048 < different_keys (xs ++ x ∷ []) = elim (cases_lt 2048 (different_keys (xs ++ x ∷ []))) [ inl lt ↦ lt | inr le ↦ absurd (n le) ] in gt)));
    }

    by : (s : LogSeen) → seen at next (image at) ≡ s → ((x : LogPage) → seen at next (image at) ≡ Holds x → AreAllowed (xs ++ x ∷ []) → IsLogWhole image (behind_all (xs ++ x ∷ []) (walk k image (next_place at x) (next + 1))))
        → IsLogWhole image (behind_all xs (elim s [ Ends ↦ stop at next | Broken ↦ stop at next | Holds x ↦ with_first x (walk k image (next_place at x) (next + 1)) ]))
    by Ends e rest = record { allowed = subst AreAllowed (sym (append-nil xs)) allowed; ends = e }
    by Broken e rest = absurd (damaged Broken e tt)
    by (Holds x) e rest =
        let w = walk k image (next_place at x) (next + 1) in
        subst (λ (ps : List LogPage). IsLogWhole image (record { pages = ps; end = w.end; next = w.next })) (append_assoc xs (x ∷ []) w.pages) (rest x e (more x e))

log_whole : (image : Image) (page number : ℕ) → ((p : ℕ) → IsDamaged image page number p → ⊥) → IsLogWhole image (log_in image page number)
unfolding log_in
log_whole image page number never = whole_behind (2 ^ 64) image page number [] page number never (omega arith) (refl, refl) (record { blocks = tt; keys = omega arith })

-- ---- values

none_lacks : (blocks : ℕ) (image : Image) (es : List Entry) → ((page : ℕ) → lacks_value blocks image es page ≡ false) → list_all (has_its_value blocks image) es ≡ true
none_lacks blocks image [] none = refl
none_lacks blocks image (e ∷ es) none =
    and_from _ _ (by e (λ page. (or_parts _ _ (none page)).0)) (none_lacks blocks image es (λ page. (or_parts (list_any (λ named. eqb named page) (page_named e) && not (has_its_value blocks image e)) (lacks_value blocks image es page) (none page)).1))
  where
    good : (named whole : Bool) → named ≡ true → (named && not whole) ≡ false → whole ≡ true
    good true true h n = refl
    good true false h n = absurd cc
    good false whole h n = absurd cc

    by : (e : Entry) → ((page : ℕ) → (list_any (λ named. eqb named page) (page_named e) && not (has_its_value blocks image e)) ≡ false) → has_its_value blocks image e ≡ true
    by (Put key value) none = refl
    by (Gone key) none = refl
    by (At key page size) none = good (eqb page page || false) (has_its_value blocks image (At key page size)) (ap (λ b. b || false) (eq-eqb page page refl)) (none page)

-- ---- the image

pub undamaged_is_sound : (blocks : ℕ) (image : Image) → ((d : Damage) → IsDamage blocks image d → ⊥) → Sound blocks image
undamaged_is_sound blocks image never = by (newest_in image) refl never
  where
    of : (found : Found) → newest_in image ≡ Some found → ((d : Damage) → IsDamageOf blocks image found d → ⊥) → Sound blocks image
    of found newest none =
        let fit = sure_fit blocks found.anchor (λ n. none (damages.Anchor found.page) (inl (record { place = found.page; is = refl; why = record { place = refl; unfit = n } }))) in
        let runs = good_runs image found.anchor.runs (λ page bad. none (damages.Run page) (inr (fit, inl (record { place = page; is = refl; why = bad })))) in
        let log = log_whole image (32 * found.anchor.log_block) found.anchor.log_seq (λ page bad. none (damages.Log page) (inr (fit, inr (runs, inl (record { place = page; is = refl; why = bad }))))) in
        let lacks = none_passes (lacks_value blocks image (shown_by image found.anchor)) (λ page bad. none (damages.Value page) (inr (fit, inr (runs, inr (log, inl (record { place = page; is = refl; why = bad })))))) in
        let values = none_lacks blocks image (shown_by image found.anchor) lacks in
        let limits = none_passes (is_passed blocks image found.anchor) (λ limit bad. none (damages.Space limit) (inr (fit, inr (runs, inr (log, inr (values, record { place = limit; is = refl; why = bad })))))) in
        sound_from_clear blocks image found (record { newest = newest; anchor = fit; runs = runs; log = log; values = values; limits = limits })

    by : (o : Option Found) → newest_in image ≡ o → ((d : Damage) → IsDamageBy blocks image o d → ⊥) → Sound blocks image
    by None newest none = absurd (none damages.NoAnchor refl)
    by (Some found) newest none = of found newest none
