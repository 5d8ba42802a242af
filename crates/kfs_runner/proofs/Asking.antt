-- What lines leave planned.
use Rattle.std.proofs.Common.{◌≡◌, ◌<◌, ◌+◌, ◌++◌, ◌∷◌, ◌∙◌, ℕ, List, [], length, take, get_or, sym, ap, subst}
use Rattle.std.proofs.lemmas.List.{take_more}
use Rattle.kv_device.specs.Asked.{Asked}
use Rattle.kfs_model.specs.declared.Line.{Line}
use Rattle.kfs_model.specs.declared.Line.TheVariants as lines
use Rattle.kfs_model.specs.declared.Answer.{Answer}
use Rattle.kfs_runner.specs.Asks.{LineAsks, SamePlans, IsPlanned, IsLastPlanned}

asks_planned : (line : Line) (answer : Answer) (old new : Asked) → LineAsks line answer old new → IsPlanned line new
asks_planned (lines.Cut n how) answer old new h = ap (λ (a : Asked). a.cut) h
asks_planned (lines.Fail kind n) answer old new h = ap (λ (a : Asked). a.fault) h
asks_planned (lines.Call call) answer old new h = tt
asks_planned lines.Mount answer old new h = tt
asks_planned (lines.Format blocks) answer old new h = tt

last_planned : (ls : List Line) (line : Line) (asked : Asked) → IsPlanned line asked → IsLastPlanned (ls ++ line ∷ []) asked
last_planned [] line asked h = h
last_planned (first ∷ []) line asked h = h
last_planned (first ∷ next ∷ more) line asked h = last_planned (next ∷ more) line asked h

-- behind the line at an index what it plans is planned
pub planned_at : (ls : List Line) (i : ℕ) (line : Line) (answer : Answer) (old new : Asked) → i < length ls → line ≡ get_or ls i line → LineAsks line answer old new → IsLastPlanned (take (i + 1) ls) new
planned_at ls i line answer old new below is asks =
    let P : List Line → Type 0 = λ done. IsLastPlanned done new in
    let next : take i ls ++ line ∷ [] ≡ take (i + 1) ls = ap (λ l. take i ls ++ l ∷ []) is ∙ sym (take_more ls i line below) in
    subst P next (last_planned (take i ls) line new (asks_planned line answer old new asks))

planned_still : (line : Line) (old new : Asked) → SamePlans old new → IsPlanned line old → IsPlanned line new
planned_still (lines.Cut n how) old new same h = same.cut ∙ h
planned_still (lines.Fail kind n) old new same h = same.fault ∙ h
planned_still (lines.Call call) old new same h = tt
planned_still lines.Mount old new same h = tt
planned_still (lines.Format blocks) old new same h = tt

-- so it is where the plans are the same
pub last_still : (ls : List Line) (old new : Asked) → SamePlans old new → IsLastPlanned ls old → IsLastPlanned ls new
last_still [] old new same h = tt
last_still (line ∷ []) old new same h = planned_still line old new same h
last_still (line ∷ next ∷ more) old new same h = last_still (next ∷ more) old new same h

-- so it is of the same lines and the same plans
pub last_moved : (ls more : List Line) (old new : Asked) → ls ≡ more → new ≡ old → IsLastPlanned ls old → IsLastPlanned more new
last_moved ls more old new same is planned =
    let A : Asked → Type 0 = λ asked. IsLastPlanned more asked in
    subst A (sym is) (subst (λ l. IsLastPlanned l old) same planned)

-- a device that rests works no more, and keeps its plans
pub rests_planned : (old new : Asked) → new ≡ record old { work = 0 } → SamePlans old new
rests_planned old new is = record { cut = ap (λ (a : Asked). a.cut) is; fault = ap (λ (a : Asked). a.fault) is }
