-- What was done on a flash with an image that was taken.
use Rattle.std.proofs.Common.{◌≡◌, ◌≤◌, ◌<◌, ◌+◌, ◌^◌, ◌++◌, ◌∷◌, ◌∙◌, [], ◌⊎◌, inl, inr, ℕ, Option, Some, None, List, false, length, take, drop, All, refl, sym, ap, subst, arith}
use Rattle.std.proofs.Math.Bool.{or-false}
use Rattle.std.proofs.lemmas.List.Elements.{All-cons, All-nil}
use Rattle.kv_base.specs.declared.damage.Damage.{Damage}
use Rattle.kv_nand.specs.Flash.{Flash, Image}
use Rattle.kv_device.specs.Machine.{Machine}
use Rattle.kssd_image.specs.Stages.{objects_in}
use Rattle.kssd_image.specs.Whole.{Sound, age_in}
use Rattle.kssd_image.specs.Damages.{IsDamage}
use Rattle.kssd_machine.specs.Machines.{resting}
use Rattle.kssd_mount.proofs.Taking.{taken}
use Rattle.kfs_core.proofs.Cleared.{kept_all}
use Rattle.kfs_model.specs.declared.Line.{Line}
use Rattle.kfs_model.specs.declared.Line.TheVariants as lines
use Rattle.kfs_script.specs.Script.{is_format}
use Rattle.kfs_model.specs.declared.Answer.{Answer}
use Rattle.kfs_model.specs.Tree.{Tree, Limits}
use Rattle.kfs_model.specs.Life.{State, Life, Past, tree_at, newborn}
use Rattle.kfs_script.specs.AnswerText.{texts_of}
use Rattle.kfs_posix.specs.Showing.{IsSaved, one_if}
use Rattle.kfs_runner.specs.declared.serving.ServeFault.{ServeFault}
use Rattle.kfs_runner.specs.declared.serving.ServeFault.TheVariants.{TooLong, Memory}
use Rattle.kfs_runner.specs.Flashes.{HasBlocks}
use Rattle.kfs_runner.specs.Lines.{IsRefused, OverflowsFrom}
use Rattle.kfs_runner.specs.Numbers.{limits_of}
use Rattle.kfs_runner.specs.Refusals.{Rested, rested_on, whole_in, damaged_in}
use Rattle.kfs_runner.specs.MountPoints.{MountState, Bare, Known, AreArmed, ShowsBare, shows_point, tree_damage}
use Rattle.kfs_runner.specs.Serving.{formats_first, IsUnplanned, IsHonest, rests_at, AreDone, IsServedOn, OverflowsOn, StopsOn, StopsBehind, StandsFor, output_limit}
use Rattle.kfs_runner.specs.Strikes.{Strikes, HasCut, is_cut_planned}
use Rattle.kfs_runner.specs.Young.{Low, IsYoung}
use Rattle.kfs_runner.proofs.MountLaws.{past_of, newest}
use Rattle.kfs_runner.proofs.ServedLines.{same_blocks, stands_for}

-- ---- where a life begins

unplanned_armed : (flash : Flash) (s : State) → IsUnplanned flash → s.cut_armed ≡ false → s.fail_armed ≡ false → AreArmed (resting flash) s
unplanned_armed flash s none cut fail =
    let c : one_if s.cut_armed ≡ 0 = ap one_if cut in
    record {
      cuts = omega (arith, none.cuts, c);
      faults = omega (arith, none.faults);
      most_cuts = omega (arith, none.cuts);
      most_faults = omega (arith, none.faults);
      few_cuts = omega (arith, none.cuts, none.few_cuts);
      few_faults = omega (arith, none.faults, none.few_faults);
    }

pub known_on : (flash : Flash) (age : ℕ) (rested : Option Rested) → IsUnplanned flash → Known (Bare (resting flash) age rested)
known_on flash age rested none = (newborn, unplanned_armed flash newborn none refl refl)

-- the flash without a session
abbrev pub bare_on : Flash → MountState
bare_on flash = Bare (resting flash) (age_in flash.image) (Some (rested_on flash))

abbrev pub Begins : Flash → State → Type 0
Begins flash s = shows_point (bare_on flash) s × whole_in (Some (rested_on flash)) × (age_in flash.image ≤ 2 ^ 61)

abbrev pub Refused : Flash → Damage → Type 0
Refused flash damage = IsRefused (Some (rested_on flash)) (whole_in (Some (rested_on flash)) × (age_in flash.image ≤ 2 ^ 61)) (tree_damage (bare_on flash)) damage

-- an honest image is one from which a life begins that is down
begins_at : (flash : Flash) (t : Tree) (k : ℕ) → IsUnplanned flash → IsHonest flash.blocks flash.image t k → Begins flash (rests_at t k)
begins_at flash t k none honest =
    let st = honest.stands in
    let saved : IsSaved (limits_of flash.blocks) (objects_in flash.image) t k = record {
      tree = st.tree;
      kept = t;
      is_kept = kept_all t st.tree;
      kept_tree = st.tree;
      shows = st.shows;
      next = omega (arith, st.low);
      count = omega (arith, st.few);
      room = st.room;
    } in
    let T : Tree → Type 0 = λ tree. IsSaved (limits_of flash.blocks) (objects_in flash.image) tree k in (
      record {
        down = tt;
        stores = record {
          past = past_of t k;
          k = k;
          stands = (refl, inl refl);
          saved = subst T (sym (newest t k)) saved;
          armed = unplanned_armed flash (rests_at t k) none refl refl;
        };
      },
      honest.sound.whole,
      omega (arith, honest.age),
    )

young_at : (blocks : ℕ) (image : Image) (t : Tree) (k : ℕ) → IsHonest blocks image t k → IsYoung (2 ^ 61) (rests_at t k).now
young_at blocks image t k honest = (
  record { count = omega (arith, honest.few); trees = All-cons (Low (2 ^ 61)) t [] (omega (arith, honest.low)) (All-nil (Low (2 ^ 61))) },
  λ n is. at n is,
)
  where
    at : (n : ℕ) → (n ≡ k) ⊎ ⊥ → n ≤ 2 ^ 61
    at n (inl is) = omega (arith, is, honest.few)
    at n (inr none) = absurd none

-- where no format comes first, none comes at all
pub no_formats_on : (ls : List Line) → formats_first ls ≡ false → All (λ line. is_format line ≡ false) (drop 1 ls) → All (λ line. is_format line ≡ false) ls
no_formats_on [] image rest = rest
no_formats_on (lines.Format wanted ∷ more) image rest = cc
no_formats_on (lines.Mount ∷ more) image rest = All-cons (λ line. is_format line ≡ false) lines.Mount more refl rest
no_formats_on (lines.Cut n how ∷ more) image rest = All-cons (λ line. is_format line ≡ false) (lines.Cut n how) more refl rest
no_formats_on (lines.Fail kind n ∷ more) image rest = All-cons (λ line. is_format line ≡ false) (lines.Fail kind n) more refl rest
no_formats_on (lines.Call call ∷ more) image rest = All-cons (λ line. is_format line ≡ false) (lines.Call call) more refl rest

-- ---- what was done

pub served_on : (old new : Flash) (ls : List Line) (first text : List ℕ) → HasBlocks old → length ls ≤ 2 ^ 22 → IsUnplanned old → HasBlocks new → first ≡ []
    → (whole_in (Some (rested_on old)) → age_in old.image ≤ 2 ^ 61 → whole_in (Some (rested_on new)))
    → (age_in old.image ≤ 2 ^ 61 → age_in new.image < 2 ^ 62)
    → ((damage : Damage) → damaged_in (Some (rested_on old)) damage → Some (rested_on new) ≡ Some (rested_on old))
    → ((damage : Damage) → tree_damage (bare_on old) damage → whole_in (Some (rested_on old)) → age_in old.image ≤ 2 ^ 61 → (resting new).stable ≡ (resting old).stable)
    → AreDone (limits_of old.blocks) ls first text (Begins old) (Refused old) (resting old) (resting new) → IsServedOn ls text old new
served_on old new ls first text has few none has_new empty whole low stays kept all =
    let blocks : new.blocks ≡ old.blocks = same_blocks new.blocks old.blocks has_new.least has.least all.room in
    let uncut : old.most_cuts ≡ old.cuts + 0 = omega (arith, none.cuts) in
    let S : ℕ → Type 0 = λ b. Sound b new.image in
    record {
      given = all.given;
      one_each = all.one_each;
      blocks = blocks;
      same = all.same ∙ ap (λ t. t ++ texts_of all.given) empty;
      short = all.short;
      cuts = ap (λ (s : Strikes). s.cuts) all.strikes;
      faults = ap (λ (s : Strikes). s.faults) all.strikes;
      planned = subst (HasCut (resting new)) (or-false (is_cut_planned ls all.given)) (all.plans false uncut);
      honest = λ t k honest.
          let begin = begins_at old t k none honest in
          let young = young_at old.blocks old.image t k honest in
          let it = all.lives (rests_at t k) begin young in (
            it.0,
            it.1,
            stands_for old.blocks new (rests_at t k) it.0 ls all.given blocks few young it.1 (whole begin.1 begin.2) (low begin.2) it.2,
          );
      damaged = λ damage is. (all.damaged damage (inl is), ap image_of (stays damage is));
      unmountable = λ damage is.
          let young : age_in old.image ≤ 2 ^ 61 = omega (arith, is.age) in
          record {
            answers = all.damaged damage (inr ((is.sound.whole, young), is.damaged));
            sound = subst S blocks (taken new.blocks new.image (whole is.sound.whole young) (low young));
            stays = kept damage is.damaged is.sound.whole young;
          };
    }
  where
    image_of : Option Rested → Image
    image_of (Some r) = r.image
    image_of None = old.image

overflows_on : (old : Flash) (ls : List Line) (first text : List ℕ) → IsUnplanned old → first ≡ [] → OverflowsFrom (limits_of old.blocks) ls output_limit first text (Begins old) (Refused old) → OverflowsOn old ls text
overflows_on old ls first text none empty over = record {
  count = over.count;
  given = over.given;
  last = over.last;
  some = over.some;
  same = over.text ∙ ap (λ t. t ++ texts_of (over.given ++ over.last ∷ [])) empty;
  below = subst (λ (t : List ℕ). length (t ++ texts_of over.given) ≤ output_limit) empty over.below;
  above = over.above;
  honest = λ t k honest.
      let it = over.lives (rests_at t k) (begins_at old t k none honest) (young_at old.blocks old.image t k honest) in
      (it.0, it.1);
  damaged = λ damage is. over.damaged damage (inl is);
  unmountable = λ damage is.
      let young : age_in old.image ≤ 2 ^ 61 = omega (arith, is.age) in
      over.damaged damage (inr ((is.sound.whole, young), is.damaged));
}

pub stops_on : (old : Flash) (ls : List Line) (first : List ℕ) (fault : ServeFault) → IsUnplanned old → first ≡ [] → StopsBehind (limits_of old.blocks) ls first (Begins old) (Refused old) fault → StopsOn old ls fault
stops_on old ls first (TooLong text) none empty over = overflows_on old ls first text none empty over
stops_on old ls first Memory none empty over = tt
