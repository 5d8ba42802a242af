-- How a script ends, and what a line is answered, where nothing fails.
use Rattle.std.proofs.Common.{◌≡◌, ◌-◌, ◌⊎◌, ◌∙◌, ◌∷◌, [], inl, inr, ℕ, List, false, Option, Some, refl, sym, ap, subst, arith}
use Rattle.std.specs.Prelude.{IfSome}
use Rattle.kv_device.specs.Machine.{Machine}
use Rattle.kfs_model.specs.declared.Line.{Line}
use Rattle.kfs_model.specs.declared.Line.TheVariants as lines
use Rattle.kfs_model.specs.declared.Answer.{Answer}
use Rattle.kfs_model.specs.declared.Answer.TheVariants as answers
use Rattle.kfs_model.specs.Tree.{Tree, Limits}
use Rattle.kfs_model.specs.Life.{State, Down, Past, tree_at, newborn}
use Rattle.kfs_laws.specs.Plain.{ArePlain, PlainAnswer, no_memory}
use Rattle.kfs_laws.proofs.Plans.{goes, plainly}
use Rattle.kfs_posix.specs.Volume.{Volume}
use Rattle.kfs_posix.specs.Showing.{ShowsState, IsSaved}
use Rattle.kfs_posix.specs.Mounting.{limits_in}
use Rattle.kfs_posix.specs.Unplanned.{IsUnplanned}
use Rattle.kfs_runner.specs.declared.ending.Ending.{Ending}
use Rattle.kfs_runner.specs.declared.ending.Ending.TheVariants.{Quiet, Prints}
use Rattle.kfs_runner.specs.declared.words.Task.TheVariants.{Run}
use Rattle.kfs_runner.specs.Numbers.{limits_of}
use Rattle.kfs_runner.specs.Words.{task_of}
use Rattle.kfs_runner.specs.Outside.{Side, Takes}
use Rattle.nand_mem.specs.ImageFile.{Refuses}
use Rattle.kfs_runner.specs.Serving.{AreAnswers, rests_at}
use Rattle.kfs_runner.specs.Ending.{Sides, Due, Answered, OnImage, due, due_by, IsDue, IsBadImage, TaskComesTo, IsWritten}
use Rattle.kfs_runner.specs.MountPoints.{MountState, Mounted, Bare, ShowsBare, IsLow, shows_point, point_machine}
use Rattle.kfs_runner.proofs.MountLaws.{past_of, newest}
use Rattle.kfs_runner.specs.Complete.{NothingFailed, ArePlainAnswers, IsAnsweredWhole, IsAnsweredTooLong, IsAnsweredOn, IsTooLongOn, HoldsFile, EachEndIsComplete, LinesFailUnplannedByMemoryAlone, MountsFailUnplannedByMemoryAlone}
use Rattle.kfs_runner.proofs.Coming.{due_script, on_image}
use Rattle.kfs_runner.proofs.ImageFiles.{image_taken}

-- ---- a script

-- a life in which no line plans anything answers plainly
plain_answers : (k : Limits) (ls : List Line) (given : List Answer) (end : State) → AreAnswers k ls given end → ArePlain ls → ArePlainAnswers k ls given end.now
plain_answers k ls [] end are plain = absurd are
plain_answers k ls (first ∷ given) end are plain = (are.0, plainly k newborn end ls given (record { cut = refl; fault = refl }) plain are.1)

the_bytes : (left : Option (List ℕ)) (bytes all : List ℕ) → left ≡ Some all → IfSome left (λ told. bytes ≡ told) → bytes ≡ all
the_bytes left bytes all is told = subst (λ o. IfSome o (λ told. bytes ≡ told)) is told

abbrev Left : ℕ → List Line → Sides → Sides → Side → Side → ℕ → Type 0
Left blocks ls old new sink sink_new status = IsAnsweredWhole blocks ls old new sink sink_new status ⊎ (IsAnsweredTooLong blocks ls old new sink sink_new status ⊎ (status ≡ 7))

answered : (blocks : ℕ) (ls : List Line) (old new : Sides) (sink sink_new : Side) (status : ℕ) (text : List ℕ) → IsDue (Answered blocks ls) old new status text → Takes sink.bytes text sink_new.bytes → Left blocks ls old new sink sink_new status
answered blocks ls old new sink sink_new status text (out, inl run) printed =
    inl (record { text = text; run = run; printed = printed; plain = plain_answers (limits_of blocks) ls run.given run.answered.end run.answered.are })
answered blocks ls old new sink sink_new status text (out, inr much) printed = inr (inl (text, much, printed))

abbrev LeftOn : List Line → Sides → Sides → Side → Side → ℕ → Type 0
LeftOn ls old new sink sink_new status = IsAnsweredOn ls old new sink sink_new status ⊎ (IsTooLongOn ls old new sink sink_new status ⊎ (status ≡ 7))

-- the file of an image isn't refused
no_bad_image : (ls : List Line) (old new : Sides) (status : ℕ) (text : List ℕ) → HoldsFile old.shelf → IsBadImage old.shelf new.shelf status text → ⊥
no_bad_image ls old new status text file bad =
    let R : Option (List ℕ) → Type 0 = λ held. IfSome held (λ bytes. Refuses bytes bad.fault) in
    image_taken file.image file.blocks bad.fault file.whole file.range (subst R file.file bad.refuses) bad.found

answered_on : (ls : List Line) (old new : Sides) (sink sink_new : Side) (status : ℕ) (text : List ℕ) → HoldsFile old.shelf → IsDue (OnImage ls) old new status text → Takes sink.bytes text sink_new.bytes → LeftOn ls old new sink sink_new status
answered_on ls old new sink sink_new status text file (out, inl bad) printed = absurd (no_bad_image ls old new status text file bad)
answered_on ls old new sink sink_new status text file (out, inr (inl run)) printed = inl (record {
  text = text;
  run = run;
  printed = printed;
  plain = λ t k honest plain.
      let it = run.served.honest t k honest in
      (it.0.now, plainly (limits_of run.old.blocks) (rests_at t k) it.0 ls run.served.given (record { cut = refl; fault = refl }) plain it.1);
})
answered_on ls old new sink sink_new status text file (out, inr (inr much)) printed = inr (inl (text, much, printed))

-- where nothing failed, what is due was printed, or memory was wanting
left : (words : List (List ℕ)) (old new : Sides) (sink sink_new : Side) (status : ℕ) (ending : Ending) (bytes : List ℕ) (expected : Due) (Out : ℕ → Type 0)
    → ((shown : ℕ) (text : List ℕ) → IsDue expected old new shown text → Takes sink.bytes text sink_new.bytes → Out shown) → (status ≡ 7 → Out status)
    → TaskComesTo (task_of words) old new ending → IsWritten ending sink sink_new status → task_of words ≡ Run → old.source.bytes ≡ Some bytes → due Run bytes ≡ expected → NothingFailed old new sink sink_new → Out status
left words old new sink sink_new status (Quiet quiet) bytes expected Out shows wants (inl unread) written runs told script well = absurd (well.source unread.2)
left words old new sink sink_new status (Quiet quiet) bytes expected Out shows wants (inr (inl wanting)) written runs told script well = wants (written.0 ∙ wanting.0)
left words old new sink sink_new status (Quiet quiet) bytes expected Out shows wants (inr (inr unput)) written runs told script well = absurd (well.shelf unput.3)
left words old new sink sink_new status (Prints shown text) bytes expected Out shows wants comes (inr cut) runs told script well = absurd (well.sink cut.2)
left words old new sink sink_new status (Prints shown text) bytes expected Out shows wants (given, is, is_due, steady) (inl printed) runs told script well =
    let D : Due → Type 0 = λ d. IsDue d old new shown text in
    let same : due (task_of words) given ≡ expected = ap (λ task. due task given) runs ∙ ap (due Run) (the_bytes old.source.bytes given bytes told is) ∙ script in
    subst Out (sym printed.0) (shows shown text (subst D same is_due) printed.1)

pub complete : EachEndIsComplete
complete words old new sink sink_new status (ending, comes, written) = record {
  formatted = λ bytes blocks ls runs told short script well.
      left words old new sink sink_new status ending bytes (Answered blocks ls) (Left blocks ls old new sink sink_new)
      (λ shown text is_due printed. answered blocks ls old new sink sink_new shown text is_due printed) (λ wants. inr (inr wants)) comes written runs told (due_script bytes short ∙ ap due_by script) well;
  taken = λ bytes ls runs told short script image file well.
      left words old new sink sink_new status ending bytes (OnImage ls) (LeftOn ls old new sink sink_new)
      (λ shown text is_due printed. answered_on ls old new sink sink_new shown text file is_due printed) (λ wants. inr (inr wants)) comes written runs told (due_script bytes short ∙ ap due_by script ∙ on_image ls image) well;
}

-- ---- a line

abbrev unarmed : State → State
unarmed s = record { now = s.now; cut_armed = false; fail_armed = false }

unarmed_session : (b : Volume) (s : State) → IsUnplanned b.tx.machine → ShowsState b s → ShowsState b (unarmed s)
unarmed_session b s none shows = record {
  now = shows.now;
  cuts = omega (arith, none.cuts);
  faults = omega (arith, none.faults);
  most_cuts = shows.most_cuts;
  most_faults = shows.most_faults;
  few_cuts = shows.few_cuts;
  few_faults = shows.few_faults;
}

unarmed_device : (m : Machine) (s : State) → IsUnplanned m → ShowsBare m s → ShowsBare m (unarmed s)
unarmed_device m s none shows = record {
  down = shows.down;
  stores = record {
    past = shows.stores.past;
    k = shows.stores.k;
    stands = shows.stores.stands;
    saved = shows.stores.saved;
    armed = record {
      cuts = omega (arith, none.cuts);
      faults = omega (arith, none.faults);
      most_cuts = shows.stores.armed.most_cuts;
      most_faults = shows.stores.armed.most_faults;
      few_cuts = shows.stores.armed.few_cuts;
      few_faults = shows.stores.armed.few_faults;
    };
  };
}

unarmed_point : (point : MountState) (s : State) → IsUnplanned (point_machine point) → shows_point point s → shows_point point (unarmed s)
unarmed_point (Mounted session) s none shows = unarmed_session session.volume s none shows
unarmed_point (Bare m age rested) s none shows = unarmed_device m s none shows

pub lines_plain : LinesFailUnplannedByMemoryAlone
lines_plain old new line answer all plain none s shows low whole young =
    let went = all.each (unarmed s) (unarmed_point old s none shows) low whole young in
    (went.0.now, (goes _ (unarmed s) went.0 s.now line answer (record { cut = refl; fault = refl }) plain refl went.1).0)

mounted_or : (limits : Limits) (past : Past) (k : ℕ) (answer : Answer) → PlainAnswer limits (Down past (k ∷ [])) lines.Mount answer → (answer ≡ answers.Mounted k) ⊎ (answer ≡ no_memory)
mounted_or limits past k answer (next, inl (n, inl same, is, up)) = inl (is ∙ ap answers.Mounted same)
mounted_or limits past k answer (next, inl (n, inr other, is, up)) = absurd other
mounted_or limits past k answer (next, inr wants) = inr wants.0

pub mounts_plain : MountsFailUnplannedByMemoryAlone
mounts_plain m age k rested t answer new all none cuts faults stored few next whole young =
    let T : Tree → Type 0 = λ tree. IsSaved (limits_in m) m.stable tree k in
    let s : State = record { now = Down (past_of t k) (k ∷ []); cut_armed = false; fail_armed = false } in
    let shows : ShowsBare m s = record {
      down = tt;
      stores = record {
        past = past_of t k;
        k = k;
        stands = (refl, inl refl);
        saved = subst T (sym (newest t k)) stored;
        armed = record {
          cuts = omega (arith, none.cuts);
          faults = omega (arith, none.faults);
          most_cuts = omega (arith, none.cuts);
          most_faults = omega (arith, none.faults);
          few_cuts = omega (arith, none.cuts, cuts);
          few_faults = omega (arith, none.faults, faults);
        };
      };
    } in
    let low : IsLow s = λ past at stands.
    let here : tree_at past at ≡ t = (λ i. tree_at (stands.0 i) (only at stands.1 i)) ∙ newest t k in
    (omega (arith, only at stands.1, few), omega (arith, ap (λ (x : Tree). x.next) here, next)) in
    mounted_or (limits_in m) (past_of t k) k answer (lines_plain (Bare m age rested) new lines.Mount answer all refl none s shows low whole young)
  where
    only : (n : ℕ) → (n ≡ k) ⊎ ⊥ → n ≡ k
    only n (inl is) = is
    only n (inr none) = absurd none
