-- What is read of a run stays where its blocks stay.
use Rattle.std.proofs.Common.{◌≡◌, ◌∙◌, ℕ, zero, suc, ◌+◌, ◌-◌, ◌*◌, ◌/◌, ◌%◌, ◌<◌, ◌≤◌, true, List, [], ◌++◌, length, get_or, drop, Option, Some, None, refl, sym, ap, arith, inl, inr}
use Rattle.std.specs.Prelude.{nat_eq}
use Rattle.std.specs.List.{list_any}
use Rattle.std.proofs.lemmas.Bool.{cases_lt}
use Rattle.std.proofs.lemmas.Bool.Decides.{nat_tests}
use Rattle.std.proofs.lemmas.List.Folds.{list_any_at}
use Rattle.kv_nand.specs.Flash.{Image, PageState}
use Rattle.kssd_entry.specs.declared.entry.Entry.{Entry}
use Rattle.kssd_model.specs.Rising.{is_rising}
use Rattle.kssd_model.specs.RunPages.{run_page, run_page_in, page_entries}
use Rattle.kssd_merge.specs.Same.{AreSameIn}
use Rattle.kssd_run.specs.declared.reader.Run.{Run}
use Rattle.kssd_run.specs.Run.{run_info, SamePages, StandsRun}
use Rattle.kssd_run.specs.Pages.{pages_behind}
use Rattle.kssd_run.proofs.Staying.{run_stays}
use Rattle.kssd_levels.specs.declared.reader.RunReader.{RunReader}
use Rattle.kssd_levels.specs.Reader.{behind_in, reader_rest, StandsIn, houses_of, StandsReader}

nat_eq_same : (a b : ℕ) → a ≡ b → nat_eq a b ≡ true
nat_eq_same a b e = grind (arith, nat_tests)

-- the pages of a run stay where its blocks stay
pub same_pages : (blocks : List ℕ) (pages : ℕ) (old new : Image) → pages ≤ 32 * length blocks → AreSameIn blocks old new → SamePages blocks pages old new
same_pages blocks pages old new housed same i lt =
    let place : 32 * get_or blocks (i / 32) 0 + i % 32 ≡ run_page blocks i = refl in
    let within : i / 32 < length blocks = omega arith in
    let block : run_page blocks i / 32 ≡ get_or blocks (i / 32) 0 = omega arith in
    same (run_page blocks i) (list_any_at (nat_eq (run_page blocks i / 32)) blocks (i / 32) 0 within (nat_eq_same _ _ block))

pages_same : (f g : ℕ → List Entry) (k m n : ℕ) → k + m ≤ n → ((i : ℕ) → i < n → g i ≡ f i) → pages_behind g k m ≡ pages_behind f k m
pages_same f g k zero n le same = refl
pages_same f g k (suc m) n le same =
    ap (λ (xs : List Entry). xs ++ g (k + m)) (pages_same f g k m n (omega arith) same)
    ∙ ap (λ (xs : List Entry). pages_behind f k m ++ xs) (same (k + m) (omega arith))

behind_same : (f g : ℕ → List Entry) (k n : ℕ) → ((i : ℕ) → i < n → g i ≡ f i) → pages_behind g k (n - k) ≡ pages_behind f k (n - k)
behind_same f g k n same =
    elim (cases_lt k n) [
      | inl lt ↦ pages_same f g k (n - k) n (omega arith) same
      | inr le ↦ let e : n - k ≡ 0 = omega arith in ap (pages_behind g k) e ∙ sym (ap (pages_behind f k) e)
    ]

run_same : (run : Run) (device next : ℕ) (old new : Image) → AreSameIn (run_info run).blocks old new → StandsRun run device old → StandsRun run device new × (behind_in new (Some run) next ≡ behind_in old (Some run) next)
run_same run device next old new same h =
    let pages = same_pages (run_info run).blocks (run_info run).pages old new run.housed same in (
      (run_stays run device old new pages h).0,
      behind_same (page_entries old (run_info run).number (run_info run).blocks) (page_entries new (run_info run).number (run_info run).blocks) next (run_info run).pages
          (λ i lt. ap (λ (state : PageState). Rattle.std.specs.Prelude.unwrap_or (run_page_in (run_info run).number i state) []) (pages i lt)),
    )

in_same : (run : Option Run) (device next : ℕ) (old new : Image) → AreSameIn (houses_of run) old new → StandsIn run device old → StandsIn run device new × (behind_in new run next ≡ behind_in old run next)
in_same None device next old new same h = (tt, refl)
in_same (Some run) device next old new same h = run_same run device next old new same h

pub reader_stays : (reader : RunReader) (device : ℕ) (old new : Image) → AreSameIn (houses_of reader.run) old new → StandsReader reader device old → StandsReader reader device new × (reader_rest reader new ≡ reader_rest reader old)
reader_stays reader device old new same h =
    let p = in_same reader.run device reader.next old new same h.run in
    let rest : reader_rest reader new ≡ reader_rest reader old = ap (λ (xs : List Entry). drop reader.passed reader.page ++ xs) p.1 in (
      record {
        run = p.0;
        loaded = λ e. p.1 ∙ h.loaded e;
        rising = ap is_rising rest ∙ h.rising;
      },
      rest,
    )
