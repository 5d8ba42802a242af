-- What was done on a device that rests, and on a flash.
use Rattle.std.proofs.Common.{◌≡◌, ◌≤◌, ◌<◌, ◌+◌, ◌^◌, ◌++◌, ◌∷◌, ◌∙◌, [], ℕ, Some, List, cond, Bool, true, false, length, refl, sym, ap, subst, arith}
use Rattle.std.specs.List.{count_by}
use Rattle.std.proofs.lemmas.List.Sums.{sum_by-cons}
use Rattle.kv_base.specs.declared.damage.Damage.{Damage}
use Rattle.kv_nand.specs.Flash.{Flash}
use Rattle.kv_device.specs.Machine.{Machine, down}
use Rattle.kfs_path.specs.declared.call.Reply.TheVariants as replies
use Rattle.kfs_model.specs.declared.Line.{Line}
use Rattle.kfs_model.specs.declared.Line.TheVariants as lines
use Rattle.std.proofs.lemmas.List.Elements.{All-head}
use Rattle.kfs_script.specs.Script.{IsLine, IsScript}
use Rattle.std.proofs.lemmas.Bool.Decides.{nat_tests}
use Rattle.kfs_model.specs.declared.Answer.{Answer}
use Rattle.kfs_model.specs.declared.Answer.TheVariants as answers
use Rattle.kfs_model.specs.Tree.{Limits}
use Rattle.kfs_model.specs.Life.{State, Life, newborn}
use Rattle.kfs_script.specs.AnswerText.{text_of, texts_of}
use Rattle.kfs_posix.specs.Showing.{one_if}
use Rattle.kfs_posix.specs.Mounting.{limits_in}
use Rattle.kssd_image.specs.Whole.{age_in}
use Rattle.kssd_machine.specs.Machines.{resting}
use Rattle.kssd_mount.proofs.Taking.{taken}
use Rattle.kfs_runner.specs.Flashes.{HasBlocks, new_on}
use Rattle.kfs_runner.specs.Numbers.{limits_of}
use Rattle.kfs_runner.specs.Lines.{AnsweredFrom, OverflowsFrom}
use Rattle.kfs_runner.specs.Strikes.{Strikes, strikes_of, struck_by, is_cut, is_failure, is_planned_behind}
use Rattle.kfs_runner.specs.MountPoints.{MountState, Known, Stores, shows_point, point_limits, point_machine}
use Rattle.kfs_runner.specs.Serving.{formats, AreDone, IsServed, Overflows, StandsFor, StopsServing, StopsBehind, output_limit}
use Rattle.kfs_runner.specs.declared.serving.ServeFault.{ServeFault}
use Rattle.kfs_runner.specs.declared.serving.ServeFault.TheVariants.{TooLong, Memory}
use Rattle.kfs_runner.specs.Refusals.{rested_on, whole_in}
use Rattle.kfs_runner.specs.Young.{IsYoung}
use Rattle.kfs_runner.proofs.PointLaws.{point_stores, known_room}
use Rattle.kfs_runner.proofs.LinesMore.{one_counted}
use Rattle.kfs_runner.proofs.Planning.{cut_rests}
use Rattle.kfs_runner.proofs.Lives.{armed_by, armed_at_end, stays_low, newborn_young}

-- ---- on a device

stores_down : (m : Machine) (s : State) → Stores m s → Stores (down m) s
stores_down m s st = record {
  past = st.past;
  k = st.k;
  stands = st.stands;
  saved = st.saved;
  armed = record {
    cuts = st.armed.cuts;
    faults = st.armed.faults;
    most_cuts = st.armed.most_cuts;
    most_faults = st.armed.most_faults;
    few_cuts = st.armed.few_cuts;
    few_faults = st.armed.few_faults;
  };
}

stores_up : (m : Machine) (s : State) → Stores (down m) s → Stores m s
stores_up m s st = record {
  past = st.past;
  k = st.k;
  stands = st.stands;
  saved = st.saved;
  armed = record {
    cuts = st.armed.cuts;
    faults = st.armed.faults;
    most_cuts = st.armed.most_cuts;
    most_faults = st.armed.most_faults;
    few_cuts = st.armed.few_cuts;
    few_faults = st.armed.few_faults;
  };
}

-- a device stores the same however it is down
stores_rest : (m rests : Machine) (s : State) → down rests ≡ down m → Stores m s → Stores rests s
stores_rest m rests s same st =
    let P : Machine → Type 0 = λ x. Stores x s in
    stores_up rests s (subst P (sym same) (stores_down m s st))

abbrev pub done_first : Answer
done_first = answers.Reply replies.Done

counted_first : (p : Answer → Bool) (given : List Answer) → p done_first ≡ false → count_by p (done_first ∷ given) ≡ count_by p given
counted_first p given none =
    let nothing : one_if (p done_first) ≡ 0 = ap one_if none in
    let one = one_counted (p done_first) in
    let more = sum_by-cons (λ x. cond (p x) 1 0) done_first given in
    omega (arith, nothing, one, more)

struck_first : (before : Strikes) (given : List Answer) → struck_by before (done_first ∷ given) ≡ struck_by before given
struck_first before given =
    let cuts = counted_first is_cut given refl in
    let faults = counted_first is_failure given refl in
    λ i. record { cuts = before.cuts + cuts i; faults = before.faults + faults i }

pub done : (old new : MountState) (rests : Machine) (ls : List Line) (first text : List ℕ) (begins : State → Type 0) (refused : Damage → Type 0) → Known new → AnsweredFrom (point_limits old) ls output_limit first text begins (shows_point new) refused (point_machine old) (point_machine new) → point_limits new ≡ point_limits old → down rests ≡ down (point_machine new) → AreDone (point_limits old) ls first text begins refused (point_machine old) rests
done old new rests ls first text begins refused known all room same = record {
  given = all.given;
  one_each = all.one_each;
  same = all.text;
  short = all.short;
  lives = λ s begin young. let it = all.lives s begin young in (it.0, it.1, stores_rest (point_machine new) rests it.0 same (point_stores new it.0 it.2));
  damaged = all.damaged;
  room = ap limits_in same ∙ sym (known_room new known) ∙ room;
  strikes = ap strikes_of same ∙ all.strikes;
  plans = λ planned has. cut_rests (point_machine new) rests (is_planned_behind planned ls all.given) same (all.plans planned has);
}

pub too_much : (limits : Limits) (ls : List Line) (first text : List ℕ) (begins : State → Type 0) (refused : Damage → Type 0) → first ≡ text_of done_first → begins newborn → OverflowsFrom limits ls output_limit first text begins refused → Overflows limits ls text
too_much limits ls first text begins refused is begin over =
    let it = over.lives newborn begin newborn_young in
    record {
      count = over.count;
      given = done_first ∷ over.given;
      last = over.last;
      end = it.0;
      some = over.some;
      are = (refl, it.1);
      same = over.text ∙ ap (λ t. t ++ texts_of (over.given ++ over.last ∷ [])) is;
      below = subst (λ (t : List ℕ). length (t ++ texts_of over.given) ≤ output_limit) is over.below;
      above = over.above;
    }

pub stops : (limits : Limits) (ls : List Line) (first : List ℕ) (begins : State → Type 0) (refused : Damage → Type 0) (fault : ServeFault) → first ≡ text_of done_first → begins newborn → StopsBehind limits ls first begins refused fault → StopsServing limits ls fault
stops limits ls first begins refused (TooLong text) is begin over = too_much limits ls first text begins refused is begin over
stops limits ls first begins refused Memory is begin over = tt

-- ---- on a flash

-- a format is of 256 blocks or more
pub formats_some : (blocks : ℕ) (ls : List Line) → IsScript ls → formats blocks ls ≡ true → 256 ≤ blocks
formats_some blocks [] held first = cc
formats_some blocks (lines.Format wanted ∷ more) held first =
    let same : wanted ≡ blocks = grind (arith, nat_tests) in
    let range = All-head IsLine (lines.Format wanted) more held.0 in
    omega (arith, same, range.0)
formats_some blocks (lines.Mount ∷ more) held first = cc
formats_some blocks (lines.Cut n how ∷ more) held first = cc
formats_some blocks (lines.Fail kind n ∷ more) held first = cc
formats_some blocks (lines.Call call ∷ more) held first = cc

-- a device holds so much by its blocks alone
pub same_blocks : (a b : ℕ) → 256 ≤ a → 256 ≤ b → limits_of a ≡ limits_of b → a ≡ b
same_blocks a b least_a least_b same =
    let keys = ap (λ (l : Limits). l.keys) same in
    let pages = ap (λ (l : Limits). l.pages) same in
    omega (arith, keys, pages)

pub moved : (l k : Limits) (ls : List Line) (old text : List ℕ) (begins : State → Type 0) (refused : Damage → Type 0) (before m n : Machine) → l ≡ k → n ≡ m → AreDone l ls old text begins refused before m → AreDone k ls old text begins refused before n
moved l k ls old text begins refused before m n limits device all =
    let L : Limits → Type 0 = λ x. AreDone x ls old text begins refused before m in
    let M : Machine → Type 0 = λ x. AreDone k ls old text begins refused before x in
    subst M (sym device) (subst L limits all)

-- a mount takes what is left, and its objects stand for a tree with which the life ends
pub stands_for : (blocks : ℕ) (new : Flash) (old end : State) (ls : List Line) (given : List Answer) → new.blocks ≡ blocks → length ls ≤ 2 ^ 22 → IsYoung (2 ^ 61) old.now → Life (limits_of blocks) old ls given end → whole_in (Some (rested_on new)) → age_in new.image < 2 ^ 62 → Stores (resting new) end → StandsFor blocks new.image end
stands_for blocks new old end ls given same few young life whole low stores =
    let S : ℕ → Type 0 = λ b. StandsFor b new.image end in
    let numbers = stays_low (limits_of blocks) old end ls given few young life stores.past stores.k stores.stands in
    subst S same (record {
      sound = taken new.blocks new.image whole low;
      past = stores.past;
      k = stores.k;
      stands = stores.stands;
      saved = stores.saved;
      few = numbers.0;
      low = numbers.1;
    })

-- lines behind a format
pub served : (old new : Flash) (ls : List Line) (first text : List ℕ) (begins : State → Type 0) (refused : Damage → Type 0) (before : Machine) → 256 ≤ old.blocks → length ls ≤ 2 ^ 22 → HasBlocks new → whole_in (Some (rested_on new)) → age_in new.image < 2 ^ 62 → first ≡ text_of done_first → begins newborn → strikes_of before ≡ strikes_of (new_on old) → AreDone (limits_of old.blocks) ls first text begins refused before (resting new) → IsServed ls text old new
served old new ls first text begins refused before least few has whole low is begin counts all =
    let blocks : new.blocks ≡ old.blocks = same_blocks new.blocks old.blocks has.least least all.room in
    let it = all.lives newborn begin newborn_young in
    let strikes = all.strikes ∙ ap (λ (s : Strikes). struck_by s all.given) counts ∙ sym (struck_first (strikes_of (new_on old)) all.given) in
    record {
      given = done_first ∷ all.given;
      blocks = blocks;
      answered = record {
        end = it.0;
        are = (refl, it.1);
        same = all.same ∙ ap (λ t. t ++ texts_of all.given) is;
        short = all.short;
        stands = stands_for old.blocks new newborn it.0 ls all.given blocks few newborn_young it.1 whole low it.2;
      };
      cuts = ap (λ (s : Strikes). s.cuts) strikes;
      faults = ap (λ (s : Strikes). s.faults) strikes;
      planned = it.2.armed.cuts ∙ ap (λ b. new.cuts + one_if b) (armed_by (limits_of old.blocks) ls (done_first ∷ all.given) it.0 (refl, it.1));
    }
