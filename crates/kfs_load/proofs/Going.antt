-- A life over a load's lines goes as the one in which nothing fails.
use Rattle.std.proofs.Common.{◌≡◌, ◌∙◌, ℕ, ℤ, zero, suc, Bool, true, false, cond, List, [], ◌∷◌, Option, Some, None, Result, Ok, Err, refl, sym, ap, subst}
use Rattle.kfs_path.specs.declared.call.Call.{Call}
use Rattle.kfs_path.specs.declared.call.Call.TheVariants as calls
use Rattle.kfs_path.specs.declared.call.Data.{Data}
use Rattle.kfs_path.specs.declared.call.Flags.{Flags}
use Rattle.kfs_path.specs.declared.call.Errno.{Errno}
use Rattle.kfs_model.specs.declared.Line.{Line}
use Rattle.kfs_model.specs.declared.Line.TheVariants as lines
use Rattle.kfs_model.specs.declared.Description.{Description}
use Rattle.kfs_model.specs.Tree.{Limits, Tree}
use Rattle.kfs_model.specs.Desk.{Desk, empty_desk}
use Rattle.kfs_model.specs.Step.{World, After, settled, step, effect}
use Rattle.kfs_model.specs.Change.{weight, is_boundary, more}
use Rattle.kfs_model.specs.Life.{Live, live_after, past_after, nothing_since}
use Rattle.kfs_laws.proofs.Outcomes
use Rattle.kfs_plain.specs.Tables.{free_number}
use Rattle.kfs_load.specs.Coming.{done_call, behind_line}
use Rattle.kfs_load.proofs.LineLaws.{Place, Idle, Opened, Over, Follow}
use Rattle.kfs_load.proofs.Twins.{desk_at, world_at, AreTwins, open_twins, pwrite_twins, swept_tree, close_leaves}

abbrev pub with_world : Live → World → Live
with_world live w = record { past = live.past; mark = live.mark; world = w; since = live.since }

-- the same done to lives that differ in what is open alone
live_same : (live : Live) (a : World) (call : Call) (x y : After) → x.reply ≡ y.reply → weight a call x ≡ weight live.world call y → x.world.tree ≡ y.world.tree
    → live_after (with_world live a) call x ≡ with_world (live_after live call y) x.world
live_same live a call x y r c t = λ i. record {
  past = past_after live.past (t i) (c i);
  mark = cond (is_boundary live.since call (r i) (c i)) (past_after live.past (t i) (c i)).count live.mark;
  world = x.world;
  since = cond (is_boundary live.since call (r i) (c i)) nothing_since (more live.since (c i));
}

-- ---- what holds between the lines: nothing is open, and both lives are one; descriptor 0 may be open

pub record AreOne (synced : Bool) (own live : Live) : Type 0 where
  pub same : own ≡ live
  pub closed : live.world.desk ≡ empty_desk
  pub marked : synced ≡ true → live.mark ≡ live.past.count

pub record AreTwo (own live : Live) : Type 0 where
  pub tree : Tree
  pub it : Option Description
  pub d : ℕ
  pub e : ℕ
  pub left : own ≡ with_world live (world_at tree d it)
  pub right : live.world ≡ world_at tree e it

abbrev pub Held : Place → Live → Live → Type 0
Held (Idle b) own live = AreOne b own live
Held Opened own live = AreTwo own live
Held Over own live = Unit {0}

-- the mount is still to come
abbrev pub IsGoing : Place → Type 0
IsGoing (Idle b) = Unit {0}
IsGoing Opened = Unit {0}
IsGoing Over = ⊥

-- the call answers and leaves as where nothing fails, and the lines go on from there
pub record CallGoes (k : Limits) (d : ℕ) (own live : Live) (call : Call) (ls : List Line) : Type 0 where
  pub next : Place
  pub follow : Follow next ls
  pub going : IsGoing next
  pub reply : (step k d own.world call).reply ≡ (done_call k live call).reply
  pub held : Held next (live_after own call (step k d own.world call)) (behind_line k live (lines.Call call))

-- ---- calls where nothing is open

settled_keeps : (w : World) (r : Result After Errno) → Outcomes.Each (λ a. a.world.desk ≡ w.desk) r → (settled w r).world.desk ≡ w.desk
settled_keeps w (Ok x) h = h
settled_keeps w (Err e) h = refl

module _ (k : Limits) (d : ℕ) (live : Live) where
  abbrev Keeps : After → Type 0
  Keeps a = a.world.desk ≡ live.world.desk

  idle_goes : (call : Call) (ls : List Line) → step k d live.world call ≡ done_call k live call → Outcomes.Each Keeps (effect k (free_number live.world.desk) live.world call) → live.world.desk ≡ empty_desk
      → Follow (Idle false) ls → CallGoes k d live live call ls
  idle_goes call ls same keeps closed follow = record {
    next = Idle false;
    follow = follow;
    going = tt;
    reply = ap (λ (a : After). a.reply) same;
    held = record {
      same = ap (live_after live call) same;
      closed = settled_keeps live.world (effect k (free_number live.world.desk) live.world call) keeps ∙ closed;
      marked = λ e. absurd (cc);
    };
  }

  sync_goes : (ls : List Line) → live.world.desk ≡ empty_desk → Follow (Idle true) ls → CallGoes k d live live calls.Sync ls
  sync_goes ls closed follow = record {
    next = Idle true;
    follow = follow;
    going = tt;
    reply = refl;
    held = record { same = refl; closed = closed; marked = λ _. refl };
  }

  open_goes : (path : List ℕ) (flags : Flags) (ls : List Line) → live.world.desk ≡ empty_desk → Follow Opened ls → CallGoes k d live live (calls.Open path flags) ls
  open_goes path flags ls closed follow =
      let call = calls.Open path flags in
      let e = free_number live.world.desk in
      let here : live.world ≡ world_at live.world.tree 0 None = λ i. record { tree = live.world.tree; desk = closed i } in
      let T : World → Type 0 = λ w. AreTwins w w call d e (step k d w call) (step k e w call) in
      let tw = subst T (sym here) (open_twins k live.world.tree path flags d e) in
      let trees = ap (λ (w : World). w.tree) tw.left ∙ sym (ap (λ (w : World). w.tree) tw.right) in
      record {
        next = Opened;
        follow = follow;
        going = tt;
        reply = tw.reply;
        held = record {
          tree = tw.tree;
          it = tw.it;
          d = d;
          e = e;
          left = live_same live live.world call (step k d live.world call) (step k e live.world call) tw.reply tw.weigh trees ∙ ap (with_world (behind_line k live (lines.Call call))) tw.left;
          right = tw.right;
        };
      }

-- ---- calls where descriptor 0 may be open

write_any : (k : Limits) (t : Tree) (it : Option Description) (d e : ℕ) (given : Data) (offset : ℤ)
    → AreTwins (world_at t d it) (world_at t e it) (calls.Pwrite 0 given offset) d e (step k d (world_at t d it) (calls.Pwrite 0 given offset)) (step k e (world_at t e it) (calls.Pwrite 0 given offset))
write_any k t None d e given offset = record { tree = t; it = None; left = refl; right = refl; reply = refl; weigh = refl }
write_any k t (Some it) d e given offset = pwrite_twins k t it d e given offset

-- nothing is open behind both
record AreClosed (w v : World) (call : Call) (x y : After) : Type 0 where
  tree : Tree
  left : x.world ≡ world_at tree 0 None
  right : y.world ≡ world_at tree 0 None
  reply : x.reply ≡ y.reply
  weigh : weight w call x ≡ weight v call y

close_any : (k : Limits) (t : Tree) (it : Option Description) (d e f g : ℕ)
    → AreClosed (world_at t d it) (world_at t e it) (calls.Close 0) (step k f (world_at t d it) (calls.Close 0)) (step k g (world_at t e it) (calls.Close 0))
close_any k t None d e f g = record { tree = t; left = refl; right = refl; reply = refl; weigh = refl }
close_any k t (Some it) d e f g =
    let l = close_leaves k t it d f in
    let r = close_leaves k t it e g in
    record {
      tree = swept_tree t;
      left = ap (λ (a : After). a.world) l;
      right = ap (λ (a : After). a.world) r;
      reply = ap (λ (a : After). a.reply) l ∙ sym (ap (λ (a : After). a.reply) r);
      weigh = ap (weight (world_at t d (Some it)) (calls.Close 0)) l ∙ sym (ap (weight (world_at t e (Some it)) (calls.Close 0)) r);
    }

module _ (k : Limits) (f : ℕ) (live : Live) (t : Tree) (it : Option Description) (d e : ℕ) (right : live.world ≡ world_at t e it) where
  abbrev own : Live
  own = with_world live (world_at t d it)

  pwrite_goes : (given : Data) (offset : ℤ) (ls : List Line) → Follow Opened ls → CallGoes k f own live (calls.Pwrite 0 given offset) ls
  pwrite_goes given offset ls follow =
      let call = calls.Pwrite 0 given offset in
      let T : World → Type 0 = λ w. AreTwins (world_at t d it) w call d e (step k d (world_at t d it) call) (step k e w call) in
      let tw = subst T (sym right) (write_any k t it d e given offset) in
      let trees = ap (λ (w : World). w.tree) tw.left ∙ sym (ap (λ (w : World). w.tree) tw.right) in
      record {
        next = Opened;
        follow = follow;
        going = tt;
        reply = tw.reply;
        held = record {
          tree = tw.tree;
          it = tw.it;
          d = d;
          e = e;
          left = live_same live (world_at t d it) call (step k f own.world call) (done_call k live call) tw.reply tw.weigh trees ∙ ap (with_world (behind_line k live (lines.Call call))) tw.left;
          right = tw.right;
        };
      }

  close_goes : (ls : List Line) → Follow (Idle false) ls → CallGoes k f own live (calls.Close 0) ls
  close_goes ls follow =
      let call = calls.Close 0 in
      let T : World → Type 0 = λ w. AreClosed (world_at t d it) w call (step k f (world_at t d it) call) (step k (free_number live.world.desk) w call) in
      let cl = subst T (sym right) (close_any k t it d e f (free_number live.world.desk)) in
      let trees = ap (λ (w : World). w.tree) cl.left ∙ sym (ap (λ (w : World). w.tree) cl.right) in
      record {
        next = Idle false;
        follow = follow;
        going = tt;
        reply = cl.reply;
        held = record {
          same = live_same live (world_at t d it) call (step k f own.world call) (done_call k live call) cl.reply cl.weigh trees ∙ ap (with_world (behind_line k live (lines.Call call))) (cl.left ∙ sym cl.right);
          closed = ap (λ (w : World). w.desk) cl.right;
          marked = λ e. absurd (cc);
        };
      }

-- ---- every call of a load

module _ (k : Limits) (d : ℕ) where
  one_goes : (b : Bool) (live : Live) (call : Call) (ls : List Line) → live.world.desk ≡ empty_desk → Follow (Idle b) (lines.Call call ∷ ls) → CallGoes k d live live call ls
  one_goes b live (calls.Mkdir path) ls closed follow = idle_goes k d live (calls.Mkdir path) ls refl (Outcomes.mkdir_each (Keeps k d live) live.world k path (λ place free. refl)) closed follow
  one_goes b live (calls.Unlink path) ls closed follow = idle_goes k d live (calls.Unlink path) ls refl (Outcomes.unlink_each (Keeps k d live) live.world path (λ place there file. refl)) closed follow
  one_goes b live (calls.Rename old new) ls closed follow = idle_goes k d live (calls.Rename old new) ls refl (Outcomes.rename_each (Keeps k d live) live.world old new refl (λ p q move. refl)) closed follow
  one_goes b live (calls.Truncate path size) ls closed follow = idle_goes k d live (calls.Truncate path size) ls refl (Outcomes.truncate_each (Keeps k d live) live.world k path size (λ place e walked there file short. refl)) closed follow
  one_goes b live calls.Sync ls closed follow = sync_goes k d live ls closed follow
  one_goes b live (calls.Open path flags) ls closed follow = open_goes k d live path flags ls closed follow
  one_goes b live call ls closed follow = absurd follow

  two_goes : (live : Live) (call : Call) (ls : List Line) (t : Tree) (it : Option Description) (a e : ℕ) → live.world ≡ world_at t e it → Follow Opened (lines.Call call ∷ ls) → CallGoes k d (with_world live (world_at t a it)) live call ls
  two_goes live (calls.Pwrite zero given offset) ls t it a e right follow = pwrite_goes k d live t it a e right given offset ls follow
  two_goes live (calls.Close zero) ls t it a e right follow = close_goes k d live t it a e right ls follow
  two_goes live call ls t it a e right follow = absurd follow

  pub call_goes : (place : Place) (own live : Live) (call : Call) (ls : List Line) → Held place own live → Follow place (lines.Call call ∷ ls) → CallGoes k d own live call ls
  call_goes (Idle b) own live call ls held follow =
      let C : Live → Type 0 = λ o. CallGoes k d o live call ls in
      subst C (sym held.same) (one_goes b live call ls held.closed follow)
  call_goes Opened own live call ls held follow =
      let C : Live → Type 0 = λ o. CallGoes k d o live call ls in
      subst C (sym held.left) (two_goes live call ls held.tree held.it held.d held.e held.right follow)
  call_goes Over own live call ls held follow = absurd follow
