-- The lines of a load on a session and on a plain tree beside it.
use Rattle.std.proofs.Common.{◌≡◌, ◌∙◌, ◌≤◌, ◌<◌, ◌+◌, ◌^◌, ℕ, max, Bool, true, false, not, cond, List, [], ◌∷◌, length, get_or, Some, refl, sym, ap, subst, arith, inl, inr, All}
use Rattle.kfs_path.specs.declared.call.Call.{Call}
use Rattle.kfs_path.specs.declared.call.Reply.{Reply}
use Rattle.kfs_path.specs.declared.call.Reply.TheVariants as replies
use Rattle.kfs_path.specs.declared.call.Cause.{Cause}
use Rattle.kfs_model.specs.declared.Node.{Node}
use Rattle.kfs_model.specs.declared.Line.{Line}
use Rattle.kfs_model.specs.declared.Line.TheVariants as lines
use Rattle.kfs_model.specs.declared.Answer.{Answer}
use Rattle.kfs_model.specs.declared.Answer.TheVariants as answers
use Rattle.kfs_model.specs.Tree.{Limits, node_of, is_named, named}
use Rattle.kfs_model.specs.Desk.{empty_desk, is_open}
use Rattle.kfs_model.specs.Step.{World, step}
use Rattle.kfs_model.specs.Life.{State, Live, Now, Up, Event, EventAt, live_after, tree_at, up_at, with_now, newborn}
use Rattle.kfs_plain.specs.Tables.{free_number}
use Rattle.kfs_plain.specs.Plain.{Plain, totals_of}
use Rattle.kfs_plain.specs.declared.tree.Totals.{Totals}
use Rattle.kfs_posix.specs.Volume.{Volume}
use Rattle.kfs_posix.specs.Opens.{desk_of}
use Rattle.kfs_posix.specs.Showing.{ShowsLive, ShowsNow}
use Rattle.kfs_load.specs.Coming.{first_live, done_call, behind_line, behind_lines, replies_to, is_error, errors_in, dones_in}
use Rattle.kfs_load.specs.Generator.{IsLoadRest, load_rest}
use Rattle.kfs_load.proofs.LineLaws.{Place, Idle, Opened, Over, Follow, HoldsOf, every_line, few_lines, rest_follows, rest_is}
use Rattle.kfs_load.proofs.Going.{AreOne, Held, IsGoing, call_goes}
use Rattle.kfs_load.proofs.Counting.{dones_more, errors_more}
use Rattle.kfs_load.proofs.Named.{named_all}
use Rattle.kfs_runner.specs.declared.load.Tally.{Tally}
use Rattle.kfs_script.specs.Script.{IsLine, is_format}
use Rattle.kfs_runner.specs.MountPoints.{MountState, Mounted, Bare, IsDown, shows_point, point_limits}
use Rattle.kfs_runner.specs.Young.{IsYoung}
use Rattle.kfs_laws.specs.Plain.{is_plain, IsUnarmed, GoesPlainly}
use Rattle.kfs_laws.proofs.Plans.{goes as goes_plainly}
use Rattle.kfs_runner.proofs.Lives.{newborn_low, event_low, IsUp, step_up}
use Rattle.kfs_runner.specs.Numbers.{limits_of, line_age}
use Rattle.kfs_runner.specs.Load.{numbers_text, lines_text, load_text}
use Rattle.kfs_runner.specs.Counts.{counted, is_down, Counts, IsUnplannedReply, IsUnplannedAnswer, plain_behind, IsCounted}

-- ---- what a session knows of its tree

surely : (b : Bool) → (b ≡ false → ⊥) → b ≡ true
surely true h = refl
surely false h = absurd (h refl)

live_whole : (b : Volume) (live : Live) → ShowsLive b live → live.world.desk ≡ empty_desk → live.mark ≡ live.past.count → named (tree_at live.past live.mark) ≡ live.world.tree
live_whole b live shows closed marked =
    let none : desk_of b.files ≡ empty_desk = sym shows.desk ∙ closed in
    let all : (n : ℕ) (node : Node) → node_of live.world.tree n ≡ Some node → is_named live.world.tree n ≡ true = λ n node there. surely (is_named live.world.tree n) (λ e.
    let h : true ≡ false = sym (shows.holds.kept n node there e) ∙ ap (λ desk. is_open desk n) none in absurd (cc)) in
    ap named (ap (tree_at live.past) marked ∙ shows.newest) ∙ named_all live.world.tree all

-- behind a commit with nothing open the tree is that of the mount
point_whole : (point : MountState) (s : State) (live : Live) → shows_point point s → s.now ≡ Up live → live.world.desk ≡ empty_desk → live.mark ≡ live.past.count → named (tree_at live.past live.mark) ≡ live.world.tree
point_whole (Mounted session) s live shows up closed marked = live_whole session.volume live (subst (ShowsNow session.volume) up shows.now) closed marked
point_whole (Bare m age rested) s live shows up closed marked = absurd (subst IsDown up shows.down)

-- ---- what holds between the lines

-- the plain tree is that of the life, until the mount; what was counted of the mount is its number
abbrev Beside : Place → Live → World → Tally → Type 0
Beside (Idle b) live w tally = w ≡ live.world
Beside Opened live w tally = w ≡ live.world
Beside Over live w tally = (w.tree ≡ live.world.tree) × (tally.changes ≡ live.mark)

pub record IsAt (k : Limits) (point : MountState) (plain : Plain) (tally : Tally) (rest all : List Line) : Type 0 where
  pub place : Place
  pub live : Live
  pub own : Live
  pub state : State
  pub follow : Follow place rest
  pub held : Held place own live
  pub beside : Beside place live plain.world tally
  pub changes : ℕ
  pub young : IsYoung changes state.now
  pub unarmed : IsUnarmed state
  pub spent : changes + length rest ≤ length all
  pub up : state.now ≡ Up own
  pub shows : shows_point point state
  pub limits : point_limits point ≡ k
  pub same : plain.limits ≡ k
  pub end : behind_lines k live rest ≡ behind_lines k first_live all
  pub dones : tally.dones + dones_in (replies_to k live rest) ≡ dones_in (replies_to k first_live all)
  pub errors : tally.errors + errors_in (replies_to k live rest) ≡ errors_in (replies_to k first_live all)

abbrev pub nothing : Tally
nothing = record { dones = 0; errors = 0; changes = 0 }

pub begins : (point : MountState) (plain : Plain) (ls : List Line) → shows_point point newborn → plain ≡ record { world = first_live.world; limits = point_limits point } → Follow (Idle false) ls → IsAt (point_limits point) point plain nothing ls ls
begins point plain ls shows is follow = record {
  place = Idle false;
  live = first_live;
  own = first_live;
  state = newborn;
  follow = follow;
  held = record { same = refl; closed = refl; marked = λ e. absurd (cc) };
  beside = ap (λ (p : Plain). p.world) is;
  changes = 0;
  young = newborn_low;
  unarmed = record { cut = refl; fault = refl };
  spent = omega arith;
  up = refl;
  shows = shows;
  limits = refl;
  same = ap (λ (p : Plain). p.limits) is;
  end = refl;
  dones = omega arith;
  errors = omega arith;
}

-- ---- one line more

abbrev pub PointDoes : MountState → State → Line → Answer → MountState → Type 0
PointDoes point s line answer new = (t : State) × Event (point_limits point) s line answer t × shows_point new t × (point_limits new ≡ point_limits point)

-- ---- what lines are answered

unplanned_up : (reply : Reply) → IsUp reply → IsUnplannedReply reply
unplanned_up (replies.Down cause) up = absurd up
unplanned_up replies.Off up = absurd up
unplanned_up reply up = tt

unplanned_plainly : (k : Limits) (live : Live) (line : Line) (answer : Answer) (next : Now) → GoesPlainly k (Up live) line answer next → IsUnplannedAnswer answer
unplanned_plainly k live (lines.Call call) answer next (d, free, inl done) =
    let reply = (step k d live.world call).reply in
    subst IsUnplannedAnswer (sym done.0) (unplanned_up reply (step_up k d live.world call))
unplanned_plainly k live (lines.Call call) answer next (d, free, inr wants) = subst IsUnplannedAnswer (sym wants.0) tt
unplanned_plainly k live lines.Mount answer next (inl done) = subst IsUnplannedAnswer (sym done.0) tt
unplanned_plainly k live lines.Mount answer next (inr wants) = subst IsUnplannedAnswer (sym wants.0) tt
unplanned_plainly k live (lines.Format blocks) answer next none = absurd none
unplanned_plainly k live (lines.Cut n how) answer next none = absurd none
unplanned_plainly k live (lines.Fail kind n) answer next none = absurd none

-- where nothing is planned, a line is answered so
pub answers_unplanned : (k : Limits) (point : MountState) (plain : Plain) (tally : Tally) (line : Line) (rest all : List Line) (answer : Answer) (at : IsAt k point plain tally rest all) (t : State) → is_plain line ≡ true → Event (point_limits point) at.state line answer t → IsUnplannedAnswer answer
answers_unplanned k point plain tally line rest all answer at t nothing event =
    let P : Now → Type 0 = λ now. EventAt (point_limits point) at.state now line answer t in
    unplanned_plainly (point_limits point) at.own line answer t.now (goes_plainly (point_limits point) at.state t (Up at.own) line answer at.unarmed nothing at.up (subst P at.up event)).0

-- a call that was counted is done
record DoneBy (k : Limits) (s : State) (own : Live) (call : Call) (t : State) (old new : Tally) : Type 0 where
  d : ℕ
  reply : Reply
  is : reply ≡ (step k d own.world call).reply
  next : t ≡ with_now s (Up (live_after own call (step k d own.world call)))
  now : new ≡ counted old (is_error reply)

still_up : (reply : Reply) (cause : Cause) → reply ≡ replies.Down cause → is_down reply ≡ false → ⊥
still_up reply cause down up = let h : true ≡ false = sym (ap is_down down) ∙ up in absurd (cc)

done_by : (k : Limits) (s : State) (own : Live) (call : Call) (answer : Answer) (t : State) (old new : Tally) → EventAt k s (Up own) (lines.Call call) answer t → Counts old answer new → DoneBy k s own call t old new
done_by k s own call (answers.Reply reply) t old new (d, free, inl done) counts = record { d = d; reply = reply; is = done.0; next = done.1; now = counts.now }
done_by k s own call (answers.Reply reply) t old new (d, free, inr falls) counts = absurd (still_up reply falls.0 falls.1 counts.up)
done_by k s own call (answers.Mounted n) t old new event counts = absurd event
done_by k s own call (answers.Refused damage) t old new event counts = absurd counts

beside_call : (place : Place) (live : Live) (w : World) (tally : Tally) (call : Call) (rest : List Line) → Follow place (lines.Call call ∷ rest) → Beside place live w tally → w ≡ live.world
beside_call (Idle b) live w tally call rest follow beside = beside
beside_call Opened live w tally call rest follow beside = beside
beside_call Over live w tally call rest follow beside = absurd follow

beside_going : (place : Place) (live : Live) (w : World) (tally : Tally) → IsGoing place → w ≡ live.world → Beside place live w tally
beside_going (Idle b) live w tally going is = is
beside_going Opened live w tally going is = is
beside_going Over live w tally going is = absurd going

dones_on : (t u : Tally) (b : Bool) (n m total : ℕ) → u ≡ counted t b → m ≡ cond (not b) 1 0 + n → t.dones + m ≡ total → u.dones + n ≡ total
dones_on t u true n m total is more all = omega (arith, ap (λ (x : Tally). x.dones) is, more, all)
dones_on t u false n m total is more all = omega (arith, ap (λ (x : Tally). x.dones) is, more, all)

errors_on : (t u : Tally) (b : Bool) (n m total : ℕ) → u ≡ counted t b → m ≡ cond b 1 0 + n → t.errors + m ≡ total → u.errors + n ≡ total
errors_on t u true n m total is more all = omega (arith, ap (λ (x : Tally). x.errors) is, more, all)
errors_on t u false n m total is more all = omega (arith, ap (λ (x : Tally). x.errors) is, more, all)

module _ (k : Limits) (point new : MountState) (plain : Plain) (tally next : Tally) (rest all : List Line) (answer : Answer) where
  happens : (line : Line) (at : IsAt k point plain tally (line ∷ rest) all) (t : State) → Event (point_limits point) at.state line answer t → EventAt k at.state (Up at.own) line answer t
  happens line at t event =
      let L : Limits → Type 0 = λ l. Event l at.state line answer t in
      let N : Now → Type 0 = λ n. EventAt k at.state n line answer t in
      subst N at.up (subst L at.limits event)

  call_on : (call : Call) → (at : IsAt k point plain tally (lines.Call call ∷ rest) all) → PointDoes point at.state (lines.Call call) answer new → Counts tally answer next → IsAt k new (plain_behind plain (lines.Call call)) next rest all
  call_on call at does counts =
      let went = does in
      let done = done_by k at.state at.own call answer went.0 tally next (happens (lines.Call call) at went.0 went.1) counts in
      let goes = call_goes k done.d at.place at.own at.live call rest at.held at.follow in
      let reply = (done_call k at.live call).reply in
      let given = replies_to k (behind_line k at.live (lines.Call call)) rest in
      let now : next ≡ counted tally (is_error reply) = done.now ∙ ap (λ r. counted tally (is_error r)) (done.is ∙ goes.reply) in
      let world : plain.world ≡ at.live.world = beside_call at.place at.live plain.world tally call rest at.follow at.beside in
      let behind : (plain_behind plain (lines.Call call)).world ≡ (behind_line k at.live (lines.Call call)).world = λ i. (step (at.same i) (free_number (world i).desk) (world i) call).world in
      record {
        place = goes.next;
        live = behind_line k at.live (lines.Call call);
        own = live_after at.own call (step k done.d at.own.world call);
        state = went.0;
        follow = goes.follow;
        held = goes.held;
        beside = beside_going goes.next (behind_line k at.live (lines.Call call)) (plain_behind plain (lines.Call call)).world next goes.going behind;
        changes = at.changes + 1;
        spent = omega (arith, at.spent);
        young = event_low (point_limits point) at.changes at.state at.state.now (lines.Call call) answer went.0 at.young refl went.1;
        unarmed = (goes_plainly (point_limits point) at.state went.0 at.state.now (lines.Call call) answer at.unarmed refl refl went.1).1;
        up = ap (λ (x : State). x.now) done.next;
        shows = went.2;
        limits = went.3 ∙ at.limits;
        same = at.same;
        end = at.end;
        dones = dones_on tally next (is_error reply) (dones_in given) (dones_in (reply ∷ given)) (dones_in (replies_to k first_live all)) now (dones_more reply given) at.dones;
        errors = errors_on tally next (is_error reply) (errors_in given) (errors_in (reply ∷ given)) (errors_in (replies_to k first_live all)) now (errors_more reply given) at.errors;
      }

-- a mount that was counted is done
record MountedBy (s : State) (own : Live) (t : State) (old new : Tally) : Type 0 where
  n : ℕ
  mark : n ≡ own.mark
  next : t ≡ with_now s (Up (up_at own.past n))
  now : new ≡ record { dones = old.dones; errors = old.errors; changes = n }

mounted_by : (k : Limits) (s : State) (own : Live) (answer : Answer) (t : State) (old new : Tally) → EventAt k s (Up own) lines.Mount answer t → Counts old answer new → MountedBy s own t old new
mounted_by k s own (answers.Mounted n) t old new event counts = record { n = n; mark = event.0; next = event.1; now = counts }
mounted_by k s own (answers.Reply reply) t old new event counts = absurd (still_up reply event.0 event.1 counts.up)
mounted_by k s own (answers.Refused damage) t old new event counts = absurd counts

-- a mount comes behind a commit
record IsSynced (own live : Live) (w : World) (rest : List Line) : Type 0 where
  follow : Follow Over rest
  one : AreOne true own live
  world : w ≡ live.world

synced_at : (place : Place) (own live : Live) (w : World) (tally : Tally) (rest : List Line) → Follow place (lines.Mount ∷ rest) → Held place own live → Beside place live w tally → IsSynced own live w rest
synced_at (Idle true) own live w tally rest follow held beside = record { follow = follow; one = held; world = beside }
synced_at (Idle false) own live w tally rest follow held beside = absurd follow
synced_at Opened own live w tally rest follow held beside = absurd follow
synced_at Over own live w tally rest follow held beside = absurd follow

module _ (k : Limits) (point new : MountState) (plain : Plain) (tally next : Tally) (rest all : List Line) (answer : Answer) where
  mount_on : (at : IsAt k point plain tally (lines.Mount ∷ rest) all) → PointDoes point at.state lines.Mount answer new → Counts tally answer next → IsAt k new plain next rest all
  mount_on at does counts =
      let went = does in
      let done = mounted_by k at.state at.own answer went.0 tally next (happens k point new plain tally next rest all answer lines.Mount at went.0 went.1) counts in
      let synced = synced_at at.place at.own at.live plain.world tally rest at.follow at.held at.beside in
      let marked = synced.one.marked refl in
      let S : Live → Type 0 = λ l. at.state.now ≡ Up l in
      let whole = point_whole point at.state at.live at.shows (subst S synced.one.same at.up) synced.one.closed marked in
      let number : next.changes ≡ at.live.mark = ap (λ (x : Tally). x.changes) done.now ∙ done.mark ∙ ap (λ (l : Live). l.mark) synced.one.same in
      let kept_dones : next.dones ≡ tally.dones = ap (λ (x : Tally). x.dones) done.now in
      let kept_errors : next.errors ≡ tally.errors = ap (λ (x : Tally). x.errors) done.now in
      record {
        place = Over;
        live = up_at at.live.past at.live.mark;
        own = up_at at.own.past done.n;
        state = went.0;
        follow = synced.follow;
        held = tt;
        beside = (ap (λ (w : World). w.tree) synced.world ∙ sym whole, number);
        changes = at.changes + 1;
        spent = omega (arith, at.spent);
        young = event_low (point_limits point) at.changes at.state at.state.now lines.Mount answer went.0 at.young refl went.1;
        unarmed = (goes_plainly (point_limits point) at.state went.0 at.state.now lines.Mount answer at.unarmed refl refl went.1).1;
        up = ap (λ (x : State). x.now) done.next;
        shows = went.2;
        limits = went.3 ∙ at.limits;
        same = at.same;
        end = at.end;
        dones = ap (λ n. n + dones_in (replies_to k (up_at at.live.past at.live.mark) rest)) kept_dones ∙ at.dones;
        errors = ap (λ n. n + errors_in (replies_to k (up_at at.live.past at.live.mark) rest)) kept_errors ∙ at.errors;
      }

no_format : (place : Place) (blocks : ℕ) (rest : List Line) → Follow place (lines.Format blocks ∷ rest) → ⊥
no_format (Idle true) blocks rest follow = follow
no_format (Idle false) blocks rest follow = follow
no_format Opened blocks rest follow = follow
no_format Over blocks rest follow = follow

no_cut : (place : Place) (n how : ℕ) (rest : List Line) → Follow place (lines.Cut n how ∷ rest) → ⊥
no_cut (Idle true) n how rest follow = follow
no_cut (Idle false) n how rest follow = follow
no_cut Opened n how rest follow = follow
no_cut Over n how rest follow = follow

no_fail : (place : Place) (kind n : ℕ) (rest : List Line) → Follow place (lines.Fail kind n ∷ rest) → ⊥
no_fail (Idle true) kind n rest follow = follow
no_fail (Idle false) kind n rest follow = follow
no_fail Opened kind n rest follow = follow
no_fail Over kind n rest follow = follow

-- a line was done and counted
pub goes_on : (k : Limits) (point new : MountState) (plain : Plain) (tally next : Tally) (line : Line) (rest all : List Line) (answer : Answer)
    → (at : IsAt k point plain tally (line ∷ rest) all) → PointDoes point at.state line answer new → Counts tally answer next → IsAt k new (plain_behind plain line) next rest all
goes_on k point new plain tally next (lines.Call call) rest all answer at does counts = call_on k point new plain tally next rest all answer call at does counts
goes_on k point new plain tally next lines.Mount rest all answer at does counts = mount_on k point new plain tally next rest all answer at does counts
goes_on k point new plain tally next (lines.Format blocks) rest all answer at does counts = absurd (no_format at.place blocks rest at.follow)
goes_on k point new plain tally next (lines.Cut n how) rest all answer at does counts = absurd (no_cut at.place n how rest at.follow)
goes_on k point new plain tally next (lines.Fail kind n) rest all answer at does counts = absurd (no_fail at.place kind n rest at.follow)

-- ---- all lines were done

over : (place : Place) (live : Live) (w : World) (tally : Tally) → Follow place [] → Beside place live w tally → (w.tree ≡ live.world.tree) × (tally.changes ≡ live.mark)
over (Idle true) live w tally follow beside = absurd follow
over (Idle false) live w tally follow beside = absurd follow
over Opened live w tally follow beside = absurd follow
over Over live w tally follow beside = beside

pub ends : (k : Limits) (point : MountState) (plain : Plain) (tally : Tally) (all : List Line) → IsAt k point plain tally [] all → IsCounted k all tally (totals_of plain.world.tree)
ends k point plain tally all at =
    let done = over at.place at.live plain.world tally at.follow at.beside in
    record {
      dones = omega (arith, at.dones);
      errors = omega (arith, at.errors);
      changes = done.1 ∙ ap (λ (l : Live). l.mark) at.end;
      totals = ap totals_of (done.0 ∙ ap (λ (l : Live). l.world.tree) at.end);
    }

-- ---- what each line of a load is

pub load_has : (P : Line → Type 0) → HoldsOf P → (ls : List Line) → IsLoadRest ls → (i : ℕ) (line : Line) → i < length ls → line ≡ get_or ls i line → P line
load_has P h ls load i line lt is =
    let A : List Line → Type 0 = λ xs. All P xs in
    subst P (sym is) (subst A (sym load.3) (every_line P h load.0 load.1) i line lt)

pub lines_hold : HoldsOf IsLine
lines_hold = record {
  mkdir = λ path. tt;
  opens = λ path. tt;
  pwrite = λ bytes offset. tt;
  close = tt;
  unlink = λ path. tt;
  rename = λ old new. tt;
  truncate = λ path size. tt;
  sync = tt;
  mount = tt;
}

pub plain_lines : HoldsOf (λ line. is_plain line ≡ true)
plain_lines = record {
  mkdir = λ path. refl;
  opens = λ path. refl;
  pwrite = λ bytes offset. refl;
  close = refl;
  unlink = λ path. refl;
  rename = λ old new. refl;
  truncate = λ path size. refl;
  sync = refl;
  mount = refl;
}

pub no_formats : HoldsOf (λ line. is_format line ≡ false)
no_formats = record {
  mkdir = λ path. refl;
  opens = λ path. refl;
  pwrite = λ bytes offset. refl;
  close = refl;
  unlink = λ path. refl;
  rename = λ old new. refl;
  truncate = λ path size. refl;
  sync = refl;
  mount = refl;
}

pub load_follows : (ls : List Line) → IsLoadRest ls → Follow (Idle false) ls
load_follows ls load = subst (λ xs. Follow (Idle false) xs) (sym load.3) (rest_follows load.0 load.1)

pub load_few : (ls : List Line) → IsLoadRest ls → length ls ≤ 60012
load_few ls load = let few = few_lines load.0 load.1 in let same = ap length load.3 in omega (arith, few, same, load.2)

-- the line of what was counted
pub text_is : (seed count blocks : ℕ) (k : Limits) (ls : List Line) (tally : Tally) (held : Totals) → k ≡ limits_of blocks → ls ≡ load_rest seed count → IsCounted k ls tally held
    → numbers_text tally.dones tally.errors tally.changes held ≡ load_text seed count blocks
unfolding lines_text
text_is seed count blocks k ls tally held limits is counts =
    let L : Limits → Type 0 = λ l. IsCounted l ls tally held in
    let R : List Line → Type 0 = λ xs. IsCounted (limits_of blocks) xs tally held in
    let it = subst R is (subst L limits counts) in
    let numbers : numbers_text tally.dones tally.errors tally.changes held ≡ lines_text (limits_of blocks) (lines.Format blocks ∷ load_rest seed count) = λ i. numbers_text (it.dones i) (it.errors i) (it.changes i) (it.totals i) in
    numbers ∙ ap (lines_text (limits_of blocks)) (sym (rest_is seed count blocks))
