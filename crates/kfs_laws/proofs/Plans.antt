-- Where nothing is planned, only memory can be wanting.
use Rattle.std.proofs.Common.{◌≡◌, ◌&&◌, Bool, true, false, IsTrue, inl, inr, refl, sym, ap, subst, [], ◌∷◌, ◌∙◌}
use Rattle.std.specs.List.{list_all}
use Rattle.kfs_path.specs.declared.call.Cause.{Cause}
use Rattle.kfs_path.specs.declared.call.Cause.TheVariants as causes
use Rattle.kfs_path.specs.declared.call.Reply.TheVariants as replies
use Rattle.kfs_model.specs.declared.Line.{Line}
use Rattle.kfs_model.specs.declared.Line.TheVariants as lines
use Rattle.kfs_model.specs.declared.Answer.{Answer}
use Rattle.kfs_model.specs.declared.Answer.TheVariants as answers
use Rattle.kfs_model.specs.Tree.{Limits}
use Rattle.kfs_model.specs.Life.{State, Now, Up, Down, EventAt, is_armed, disarmed, with_now, up_at}
use Rattle.kfs_laws.specs.Plain.{is_plain, IsUnarmed, GoesPlainly, NothingFailsUnplanned}

both_left : (a b : Bool) → (a && b) ≡ true → a ≡ true
both_left true b e = refl
both_left false b e = e

both_right : (a b : Bool) → (a && b) ≡ true → b ≡ true
both_right true b e = e
both_right false b e = absurd (cc)

unarmed_not : (b : Bool) → b ≡ false → IsTrue b → ⊥
unarmed_not b e h = cc

-- the one cause that needs no plan
pub only_memory : (s : State) (cause : Cause) (may : Bool) → IsUnarmed s → IsTrue (is_armed s cause && may) → cause ≡ causes.NoMem
only_memory s causes.Cut may u h = absurd (unarmed_not (s.cut_armed && may) (λ i. u.cut i && may) h)
only_memory s causes.Eio may u h = absurd (unarmed_not (s.fail_armed && may) (λ i. u.fault i && may) h)
only_memory s causes.NoMem may u h = refl

armed_only : (s : State) (cause : Cause) → IsUnarmed s → IsTrue (is_armed s cause) → cause ≡ causes.NoMem
armed_only s causes.Cut u h = absurd (unarmed_not s.cut_armed u.cut h)
armed_only s causes.Eio u h = absurd (unarmed_not s.fail_armed u.fault h)
armed_only s causes.NoMem u h = refl

unarmed_now : (s : State) (now : Now) → IsUnarmed s → IsUnarmed (with_now s now)
unarmed_now s now u = record { cut = u.cut; fault = u.fault }

unarmed_after : (s : State) (cause : Cause) (now : Now) → IsUnarmed s → IsUnarmed (disarmed s cause now)
unarmed_after s causes.Cut now u = record { cut = refl; fault = u.fault }
unarmed_after s causes.Eio now u = record { cut = u.cut; fault = refl }
unarmed_after s causes.NoMem now u = record { cut = u.cut; fault = u.fault }

abbrev down_by : Cause → Answer
down_by cause = answers.Reply (replies.Down cause)

abbrev state_now : State → Now
state_now s = s.now

now_after : (s : State) (cause : Cause) (now : Now) → (disarmed s cause now).now ≡ now
now_after s causes.Cut now = refl
now_after s causes.Eio now = refl
now_after s causes.NoMem now = refl

-- one line
pub goes : (k : Limits) (s new : State) (now : Now) (line : Line) (answer : Answer) → IsUnarmed s → is_plain line ≡ true → s.now ≡ now → EventAt k s now line answer new → GoesPlainly k now line answer new.now × IsUnarmed new
goes k s new (Up live) (lines.Call call) (answers.Reply reply) u p is (d, free, inl done) = ((d, free, inl (ap answers.Reply done.0, ap state_now done.1)), subst IsUnarmed (sym done.1) (unarmed_now s _ u))
goes k s new (Up live) (lines.Call call) (answers.Reply reply) u p is (d, free, inr (cause, reply_is, armed, new_is)) = (
  (d, free, inr (subst (λ c. answers.Reply reply ≡ down_by c) (only_memory s cause _ u armed) (ap answers.Reply reply_is), ap state_now new_is ∙ now_after s cause _)),
  subst IsUnarmed (sym new_is) (unarmed_after s cause _ u),
)
goes k s new (Up live) (lines.Call call) (answers.Mounted n) u p is h = absurd h
goes k s new (Up live) lines.Mount (answers.Mounted n) u p is h = (inl (ap answers.Mounted h.0, ap state_now h.1 ∙ ap (λ m. Up (up_at live.past m)) h.0), subst IsUnarmed (sym h.1) (unarmed_now s _ u))
goes k s new (Up live) lines.Mount (answers.Reply reply) u p is (cause, reply_is, armed, new_is) = (
  inr (subst (λ c. answers.Reply reply ≡ down_by c) (armed_only s cause u armed) (ap answers.Reply reply_is), ap state_now new_is ∙ now_after s cause _),
  subst IsUnarmed (sym new_is) (unarmed_after s cause _ u),
)
goes k s new (Up live) (lines.Call call) (answers.Refused fault) u p is h = absurd h
goes k s new (Up live) lines.Mount (answers.Refused fault) u p is h = absurd h
goes k s new (Up live) (lines.Cut n how) answer u p is h = absurd (cc)
goes k s new (Up live) (lines.Fail kind n) answer u p is h = absurd (cc)
goes k s new (Up live) (lines.Format blocks) answer u p is h = absurd h
goes k s new (Down past may) (lines.Call call) (answers.Reply reply) u p is h = ((ap answers.Reply h.0, ap state_now h.1 ∙ is), subst IsUnarmed (sym h.1) u)
goes k s new (Down past may) (lines.Call call) (answers.Mounted n) u p is h = absurd h
goes k s new (Down past may) lines.Mount (answers.Mounted n) u p is h = (inl (n, h.0, refl, ap state_now h.1), subst IsUnarmed (sym h.1) (unarmed_now s _ u))
goes k s new (Down past may) lines.Mount (answers.Reply reply) u p is (cause, reply_is, armed, new_is) = (
  inr (subst (λ c. answers.Reply reply ≡ down_by c) (armed_only s cause u armed) (ap answers.Reply reply_is), ap state_now new_is ∙ now_after s cause _),
  subst IsUnarmed (sym new_is) (unarmed_after s cause _ u),
)
goes k s new (Down past may) (lines.Call call) (answers.Refused fault) u p is h = absurd h
goes k s new (Down past may) lines.Mount (answers.Refused fault) u p is h = absurd h
goes k s new (Down past may) (lines.Cut n how) answer u p is h = absurd (cc)
goes k s new (Down past may) (lines.Fail kind n) answer u p is h = absurd (cc)
goes k s new (Down past may) (lines.Format blocks) answer u p is h = absurd h

-- all lines, one after the other
pub plainly : NothingFailsUnplanned
plainly k old new [] [] u p life = ap state_now life
plainly k old new (l ∷ ls) (x ∷ xs) u p life =
    let e = goes k old life.0 old.now l x u (both_left (is_plain l) (list_all is_plain ls) p) refl life.1 in
    (life.0.now, e.0, plainly k life.0 new ls xs e.1 (both_right (is_plain l) (list_all is_plain ls) p) life.2)
plainly k old new [] (x ∷ xs) u p life = absurd life
plainly k old new (l ∷ ls) [] u p life = absurd life
