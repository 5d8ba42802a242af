-- What an anchor may name, by levels.
use Rattle.std.proofs.Common.{◌≡◌, ◌∙◌, ℕ, zero, suc, ◌+◌, ◌≤◌, ◌==◌, Bool, cond, List, [], ◌∷◌, ◌++◌, length, refl, sym, ap, subst, arith, zero-add}
use Rattle.std.specs.List.{All, AllPairs}
use Rattle.std.proofs.lemmas.Bool.{eq-eqb, ne_eqb}
use Rattle.std.proofs.lemmas.List.{map-append, length-map}
use Rattle.std.proofs.lemmas.List.Sums.{sum_by-append}
use Rattle.std.proofs.lemmas.List.Elements.{All-append}
use Rattle.kssd_model.specs.declared.runs.RunInfo.{RunInfo}
use Rattle.kssd_image.specs.AnchorForm.{AreOnLevels, count_on}
use Rattle.kssd_run.specs.declared.reader.Run.{Run}
use Rattle.kssd_run.specs.Run.{run_info}
use Rattle.kssd_levels.specs.Runs.{infos_in}
use Rattle.kssd_levels.specs.Sound.{AreLevels}
use Rattle.kssd_levels.specs.Levels.{MayName}

-- all runs are of this level
pub record OfLevel (level : ℕ) (infos : List RunInfo) : Type 0 where
  pub all : All (λ info. info.level ≡ level) infos

of_head : (level : ℕ) (x : RunInfo) (xs : List RunInfo) → OfLevel level (x ∷ xs) → x.level ≡ level
of_head level x xs h = h.all 0 x (omega arith)

of_tail : (level : ℕ) (x : RunInfo) (xs : List RunInfo) → OfLevel level (x ∷ xs) → OfLevel level xs
of_tail level x xs h = record { all = λ k d lt. h.all (suc k) d (omega arith) }

-- none is below a level
pub record AtLeast (level : ℕ) (infos : List RunInfo) : Type 0 where
  pub all : All (λ info. level ≤ info.level) infos

at_least : (low level : ℕ) (infos : List RunInfo) → low ≤ level → OfLevel level infos → AtLeast low infos
at_least low level infos le h = record { all = λ k d lt. omega (arith, h.all k d lt) }

at_least_join : (level : ℕ) (xs ys : List RunInfo) → AtLeast level xs → AtLeast level ys → AtLeast level (xs ++ ys)
at_least_join level xs ys h g = record { all = All-append (λ (info : RunInfo). level ≤ info.level) xs ys h.all g.all }

pub record InOrder (infos : List RunInfo) : Type 0 where
  pub pairs : AllPairs (λ run later. run.level ≤ later.level) infos

order_none : InOrder []
order_none = record { pairs = λ i j d lt within. absurd (omega arith) }

order_first : (x : RunInfo) (xs : List RunInfo) → AtLeast x.level xs → InOrder xs → InOrder (x ∷ xs)
order_first x xs low h = record { pairs = by }
  where
    by : AllPairs (λ run later. run.level ≤ later.level) (x ∷ xs)
    by i zero d lt within = absurd (omega arith)
    by zero (suc j) d lt within = low.all j d (omega arith)
    by (suc i) (suc j) d lt within = h.pairs i j d (omega arith) (omega arith)

-- runs of one level before runs of later ones
order_join : (level : ℕ) (xs ys : List RunInfo) → OfLevel level xs → AtLeast level ys → InOrder ys → InOrder (xs ++ ys)
order_join level [] ys h low g = g
order_join level (x ∷ xs) ys h low g =
    let e = of_head level x xs h in
    order_first x (xs ++ ys) (subst (λ (n : ℕ). AtLeast n (xs ++ ys)) (sym e) (at_least_join level xs ys (at_least level level xs (omega arith) (of_tail level x xs h)) low)) (order_join level xs ys (of_tail level x xs h) low g)

abbrev tally : Bool → ℕ
tally b = cond b 1 0

count_one : (level : ℕ) (x : RunInfo) → x.level ≡ level → tally (x.level == level) ≡ 1
count_one level x e = ap tally (eq-eqb x.level level e)

count_other : (level other : ℕ) (x : RunInfo) → x.level ≡ other → (other ≡ level → ⊥) → tally (x.level == level) ≡ 0
count_other level other x e ne = ap tally (ne_eqb x.level level (λ f. ne (sym e ∙ f)))

pub count_join : (level : ℕ) (xs ys : List RunInfo) → count_on level (xs ++ ys) ≡ count_on level xs + count_on level ys
count_join level xs ys = sum_by-append (λ (run : RunInfo). cond (run.level == level) 1 0) xs ys

count_cons : (level : ℕ) (x : RunInfo) (xs : List RunInfo) → count_on level (x ∷ xs) ≡ tally (x.level == level) + count_on level xs
count_cons level x xs = count_join level (x ∷ []) xs ∙ ap (λ (n : ℕ). n + count_on level xs) (zero-add (tally (x.level == level)))

pub count_all : (level : ℕ) (xs : List RunInfo) → OfLevel level xs → count_on level xs ≡ length xs
count_all level [] h = refl
count_all level (x ∷ xs) h = omega (arith, count_cons level x xs, count_one level x (of_head level x xs h), count_all level xs (of_tail level x xs h))

pub count_none : (level other : ℕ) (xs : List RunInfo) → (other ≡ level → ⊥) → OfLevel other xs → count_on level xs ≡ 0
count_none level other [] ne h = refl
count_none level other (x ∷ xs) ne h = omega (arith, count_cons level x xs, count_other level other x (of_head other x xs h) ne, count_none level other xs ne (of_tail other x xs h))

pub infos_join : (top one base : List Run) → infos_in (top ++ (one ++ base)) ≡ infos_in top ++ (infos_in one ++ infos_in base)
infos_join top one base = map-append run_info top (one ++ base) ∙ ap (λ (xs : List RunInfo). infos_in top ++ xs) (map-append run_info one base)

on_levels : (top one base : List RunInfo) → OfLevel 0 top → OfLevel 1 one → OfLevel 2 base → length top ≤ 4 → length one ≤ 1 → length base ≤ 1 → AreOnLevels (top ++ (one ++ base))
on_levels top one base h g f few single last = record {
  known = All-append (λ (run : RunInfo). run.level ≤ 2) top (one ++ base) (λ k d lt. omega (arith, h.all k d lt)) (All-append (λ (run : RunInfo). run.level ≤ 2) one base (λ k d lt. omega (arith, g.all k d lt)) (λ k d lt. omega (arith, f.all k d lt)));
  order =
      (order_join 0 top (one ++ base) h (at_least_join 0 one base (at_least 0 1 one (omega arith) g) (at_least 0 2 base (omega arith) f))
      (order_join 1 one base g (at_least 1 2 base (omega arith) f)
      (subst InOrder (Rattle.std.proofs.lemmas.List.append-nil base) (order_join 2 base [] f (record { all = λ k d lt. absurd (omega arith) }) order_none)))).pairs;
  level_0 = omega (arith, count_join 0 top (one ++ base), count_join 0 one base, count_all 0 top h, count_none 0 1 one (λ e. omega arith) g, count_none 0 2 base (λ e. omega arith) f);
  level_1 = omega (arith, count_join 1 top (one ++ base), count_join 1 one base, count_all 1 one g, count_none 1 0 top (λ e. omega arith) h, count_none 1 2 base (λ e. omega arith) f);
  base = omega (arith, count_join 2 top (one ++ base), count_join 2 one base, count_all 2 base f, count_none 2 0 top (λ e. omega arith) h, count_none 2 1 one (λ e. omega arith) g);
}

-- an anchor may name what holds of each device's levels
pub may_name : (device : ℕ) (top one base : List Run) → AreLevels device top one base → MayName device (infos_in (top ++ (one ++ base)))
may_name device top one base h = record {
  levels = subst AreOnLevels (sym (infos_join top one base)) (on_levels (infos_in top) (infos_in one) (infos_in base) (record { all = h.zero_level }) (record { all = h.one_level }) (record { all = h.base_level }) (omega (arith, h.zero_few, length-map top run_info)) (omega (arith, h.one_few, length-map one run_info)) (omega (arith, h.base_few, length-map base run_info)));
  runs = h.runs;
  blocks_differ = h.blocks_differ;
  numbers_differ = h.numbers_differ;
}
