-- A collection copies fewer pages than a block has.
use Rattle.std.proofs.Common.{◌≡◌, ◌∙◌, ℕ, zero, suc, ◌+◌, ◌-◌, ◌*◌, ◌/◌, ◌%◌, ◌<◌, ◌≤◌, inl, inr, Bool, true, false, cond, List, [], ◌∷◌, length, get_or, take, drop, Option, Some, None, is_some, refl, sym, ap, arith, length-append}
use Rattle.std.specs.List.{count_by, range_with_len}
use Rattle.std.proofs.lemmas.Bool.{cases_lt}
use Rattle.std.proofs.lemmas.List.{length-take, length-drop, get_or-take, get_or-drop}
use Rattle.std.proofs.lemmas.List.Sums.{sum_by-cons}
use Rattle.kv_nand.specs.Flash.{Flash, Image}
use Rattle.kssd_values.specs.Marks.{is_live}
use Rattle.kssd_values.specs.declared.mark.Mark.{Mark}
use Rattle.kssd_values.specs.declared.mark.Mark.TheVariants.{Dead}
use Rattle.kssd_values.specs.declared.filling.Filling.{Filling}
use Rattle.kssd_values.specs.declared.values.Values.{Values}
use Rattle.kssd_values.specs.Places.{IsValueBlock, next_in}
use Rattle.kssd_values.specs.Blocks.{device_of, mark_at, is_live_at, has_target, target_next, copied, IsVictim}
use Rattle.kssd_reclaim.specs.declared.copies.CopyOf.{CopyOf}
use Rattle.kssd_reclaim.specs.declared.reclaim.Reclaim.{Reclaim}
use Rattle.kssd_reclaim.specs.Reclaim.{block_of, next_of, copies_of, AllCopied, Collects}
use Rattle.kssd_reclaim.specs.Steps.{Steps, Begins, CopiesNext}
use Rattle.kssd_machine.specs.Collecting.{live_from, AreFew, is_source}

abbrev as_live : Values → ℕ → ℕ
as_live v page = cond (is_live_at v page) 1 0

first_live : (v : Values) (first n : ℕ) → live_from v first (suc n) ≡ cond (is_live_at v first) 1 0 + live_from v (first + 1) n
first_live v first n = sum_by-cons (λ page. cond (is_live_at v page) 1 0) first (range_with_len (first + 1) n)

-- fewer are live where each that is was before
fewer_live : (v w : Values) (first n : ℕ) → ((page : ℕ) → is_live_at w page ≡ true → is_live_at v page ≡ true) → live_from w first n ≤ live_from v first n
fewer_live v w first zero less = omega arith
fewer_live v w first (suc n) less =
    let rest = fewer_live v w (first + 1) n less in
    let here = by (is_live_at w first) (is_live_at v first) (less first) in
    let a = first_live v first n in
    let b = first_live w first n in
    omega arith
  where
    by : (b c : Bool) → (b ≡ true → c ≡ true) → cond b 1 0 ≤ cond c 1 0
    by true true h = omega arith
    by true false h = absurd (let e = h refl in cc)
    by false c h = omega arith

-- a live page counts, and so do those behind it
behind_live : (v : Values) (first m n all : ℕ) → all ≡ m + suc n → is_live_at v (first + m) ≡ true → 1 + live_from v (first + m + 1) n ≤ live_from v first all
behind_live v first zero n all sum live =
    let whole : live_from v first all ≡ live_from v first (suc n) = ap (live_from v first) (let t : all ≡ suc n = omega arith in t) in
    let here : as_live v first ≡ 1 = ap {B = ℕ} (λ b. cond b 1 0) (ap (is_live_at v) (let t : first ≡ first + 0 = omega arith in t) ∙ live) in
    let more = first_live v first n in
    let same : live_from v (first + 0 + 1) n ≡ live_from v (first + 1) n = ap (λ k. live_from v k n) (let t : first + 0 + 1 ≡ first + 1 = omega arith in t) in
    omega arith
behind_live v first (suc m) n zero sum live = absurd (omega arith)
behind_live v first (suc m) n (suc all) sum live =
    let rest = behind_live v (first + 1) m n all (omega arith) (ap (is_live_at v) (let t : first + 1 + m ≡ first + suc m = omega arith in t) ∙ live) in
    let more = first_live v first all in
    let same : live_from v (first + 1 + m + 1) n ≡ live_from v (first + suc m + 1) n = ap (λ k. live_from v k n) (let t : first + 1 + m + 1 ≡ first + suc m + 1 = omega arith in t) in
    omega arith

pub few_dead : (r : Reclaim) (v w : Values) → ((page : ℕ) → is_live_at w page ≡ true → is_live_at v page ≡ true) → target_next w ≡ target_next v → AreFew r v → AreFew r w
few_dead r v w less next few =
    let fewer = few.fewer in
    let ahead = fewer_live v w (32 * block_of r + next_of r) (32 - next_of r) less in
    record { fewer = omega arith; used = next ∙ few.used }

pub few_copied : (r : Reclaim) (v : Values) → AreFew r v → copied v < 32
few_copied r v few = let fewer = few.fewer in let used = few.used in omega arith

-- ---- the start

-- the pages of a list from a place on
listed_live : (v : Values) (xs : List Mark) (first n : ℕ) → ((k : ℕ) → k < n → get_or xs k Dead ≡ mark_at v (first + k)) → n ≤ length xs → live_from v first n ≤ count_by is_live xs
listed_live v xs first zero same long = omega arith
listed_live v [] first (suc n) same long = absurd (omega arith)
listed_live v (x ∷ xs) first (suc n) same long =
    let rest = listed_live v xs (first + 1) n (λ k low. same (suc k) (omega arith) ∙ ap (mark_at v) (let t : first + suc k ≡ first + 1 + k = omega arith in t)) (omega arith) in
    let here : as_live v first ≡ cond (is_live x) 1 0 = ap {B = ℕ} (λ m. cond (is_live m) 1 0) (sym (same 0 (omega arith) ∙ ap (mark_at v) (let t : first + 0 ≡ first = omega arith in t))) in
    let a = first_live v first n in
    let b = sum_by-cons (λ (m : Mark). cond (is_live m) 1 0) x xs in
    omega arith

pub few_first : (r : Reclaim) (v : Values) (block : ℕ) → IsVictim v block → has_target v ≡ false → block_of r ≡ block → next_of r ≡ 0 → copies_of r ≡ [] → AreFew r v
few_first r v block victim none is first empty =
    let marks = v.marks.items in
    let last = victim.closed.value.last in
    let pages = v.sound.pages in
    let long : 32 ≤ length (take 32 (drop (32 * block) marks)) = simp (length-take, length-drop) (omega arith) in
    let live = listed_live v (take 32 (drop (32 * block) marks)) (32 * block) 32 (λ k low. get_or-take 32 (drop (32 * block) marks) k Dead low ∙ get_or-drop (32 * block) marks k Dead) long in
    let some = victim.some in
    let copies = ap (λ (cs : List CopyOf). length cs) empty in
    let ahead : live_from v (32 * block_of r + next_of r) (32 - next_of r) ≡ live_from v (32 * block) 32 = (λ i. live_from v (32 * is i + first i) (32 - first i)) ∙ ap (λ k. live_from v k 32) (let t : 32 * block + 0 ≡ 32 * block = omega arith in t) in
    record { fewer = omega arith; used = none_used v.target none ∙ sym copies }
  where
    none_used : (o : Option Filling) → is_some o ≡ false → next_in o ≡ 0
    none_used None h = refl
    none_used (Some f) h = absurd cc

-- ---- a step

few_same : (old new : Reclaim) (v w : Values) → AreFew old v → block_of new ≡ block_of old → next_of new ≡ next_of old → copies_of new ≡ copies_of old → ((page : ℕ) → mark_at w page ≡ mark_at v page) → target_next w ≡ target_next v → AreFew new w
few_same old new v w few block next copies marks used =
    let fewer = few.fewer in
    let ahead = fewer_live v w (32 * block_of old + next_of old) (32 - next_of old) (λ page live. sym (ap is_live (marks page)) ∙ live) in
    let count = ap (λ (cs : List CopyOf). length cs) copies in
    let same : live_from w (32 * block_of new + next_of new) (32 - next_of new) ≡ live_from w (32 * block_of old + next_of old) (32 - next_of old) = λ i. live_from w (32 * block i + next i) (32 - next i) in
    record { fewer = omega arith; used = used ∙ few.used ∙ sym count }

no_target : (o : Option Filling) → is_some o ≡ false → next_in o ≡ 0
no_target None h = refl
no_target (Some f) h = absurd cc

pub few_after : (old new : Reclaim) (v w : Values) (before after : Flash) → IsValueBlock (device_of v) (block_of old) → Steps old v before new w after → AreFew old v → AreFew new w
few_after old new v w before after place steps few = elim steps [
  | inl idle ↦ few_same old new v w few idle.waits.block idle.waits.next idle.waits.copies (λ page. ap (λ (x : Values). mark_at x page) idle.values) (ap (λ (x : Values). target_next x) idle.values)
  | inr more ↦ elim more [ inl step ↦ begins step | inr step ↦ copies step ]
]
  where
    begins : Begins old v before new w after → AreFew new w
    begins step =
        let taken = step.values.begins refl in
        few_same old new v w few step.waits.block step.waits.next step.waits.copies step.values.marks (taken.1 ∙ sym (no_target v.target taken.0))

    copies : CopiesNext old v before new w after → AreFew new w
    copies step =
        let copy = step.copy in
        let on = step.values.goes_on copy.target refl in
        let ahead = step.source.ahead in
        let block = ahead.block_is in
        let from = ahead.from in
        let next = step.next in
        let same_block = step.block in
        let place_is : copy.source ≡ 32 * block_of old + next_of old + (copy.source % 32 - next_of old) = omega arith in
        let live = ap (is_live_at v) (sym place_is) ∙ step.source.live in
        let behind = behind_live v (32 * block_of old + next_of old) (copy.source % 32 - next_of old) (31 - copy.source % 32) (32 - next_of old) (omega arith) live in
        let less = fewer_live v w (32 * block_of new + next_of new) (32 - next_of new) (λ page is. sym (ap is_live (step.values.marks page)) ∙ is) in
        let start : 32 * block_of old + next_of old + (copy.source % 32 - next_of old) + 1 ≡ 32 * block_of new + next_of new = omega arith in
        let rest : 31 - copy.source % 32 ≡ 32 - next_of new = omega arith in
        let same : live_from v (32 * block_of old + next_of old + (copy.source % 32 - next_of old) + 1) (31 - copy.source % 32) ≡ live_from v (32 * block_of new + next_of new) (32 - next_of new) = λ i. live_from v (start i) (rest i) in
        let long = ap (λ (cs : List CopyOf). length cs) step.copies in
        let added = length-append (copies_of old) (copy ∷ []) in
        let fewer = few.fewer in
        let used = few.used in
        let went = on.next in
        record { fewer = omega arith; used = (let t : target_next w ≡ length (copies_of new) = omega arith in t) }

-- ---- the end

pub all_gone : (r : Reclaim) (v w : Values) (image : Image) → Collects r v image → AllCopied r v → ((page : ℕ) → is_source r page ≡ true → mark_at w page ≡ Dead) → ((page : ℕ) → page / 32 ≡ block_of r → is_source r page ≡ false → mark_at w page ≡ mark_at v page)
    → (page : ℕ) → page / 32 ≡ block_of r → is_live_at w page ≡ false
all_gone r v w image collects copied died kept page here = by (is_source r page) refl
  where
    by : (b : Bool) → is_source r page ≡ b → is_live_at w page ≡ false
    by true is = ap is_live (died page is)
    by false is = ap is_live (kept page here is) ∙ live (is_live_at v page) refl
      where
        live : (b : Bool) → is_live_at v page ≡ b → is_live_at v page ≡ false
        live false h = h
        live true h = elim (cases_lt (page % 32) (next_of r)) [
          | inl low ↦ absurd (let e : false ≡ true = sym is ∙ collects.complete page here low h in cc)
          | inr ahead ↦ copied page (record { block_is = here; from = ahead })
        ]
