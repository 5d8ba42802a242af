-- What a session, or a device without one, shows of a life.
use Rattle.std.specs.Prelude.{ℕ, true, ◌≡◌, ◌≤◌, ◌<◌, ◌+◌, ◌^◌, max, Option, None}
use Rattle.kv_base.specs.declared.damage.Damage.{Damage}
use Rattle.kv_device.specs.Machine.{Machine, none_open}
use Rattle.kfs_damages.specs.Damages.{IsTreeDamage}
use Rattle.kfs_judge.specs.Judging.{heard, room_in}
use Rattle.kfs_model.specs.declared.Line.{Line}
use Rattle.kfs_model.specs.declared.Answer.{Answer}
use Rattle.kfs_model.specs.Tree.{Limits}
use Rattle.kfs_model.specs.Life.{State, Now, Up, Down, Past, tree_at, AnyOf, Event}
use Rattle.kfs_tx.specs.Tx.{age_of}
use Rattle.kfs_core.specs.Starting.{first_objects}
use Rattle.kfs_posix.specs.Volume.{SessionState, limits_of, running_in}
use Rattle.kfs_posix.specs.Showing.{ShowsState, IsSaved, one_if}
use Rattle.kfs_posix.specs.Mounting.{limits_in}
use Rattle.kfs_runner.specs.declared.mount_point.MountPoint.{MountPoint}
use Rattle.kfs_runner.specs.declared.mount_point.MountPoint.TheVariants as points
use Rattle.kfs_runner.specs.Strikes.{strikes_of, struck, PlansCut}
use Rattle.kfs_runner.specs.Numbers.{line_age}
use Rattle.kfs_runner.specs.Refusals.{Rested, damaged_in, whole_in, AnswersDamage}

-- a session with its device, or a device that is down with the greatest number in it and the image that it rests on
pub data MountState : Type 0 where
  Mounted : (session : SessionState) → MountState
  Bare : (machine : Machine) (age : ℕ) (rested : Option Rested) → MountState

-- what a point is, by what its device is without a session
abbrev pub mount_state : {A B : Type 0} → (A → Machine) → (A → ℕ) → (A → Option Rested) → MountPoint A B → MountState
mount_state machine age rested (points.Mounted session) = Mounted session
mount_state machine age rested (points.Bare store) = Bare (machine store) (age store) (rested store)

-- one cut is planned exactly where it is armed, and one fault at most where it is
pub record AreArmed (m : Machine) (s : State) : Type 0 where
  pub cuts : m.most_cuts ≡ m.cuts + one_if s.cut_armed
  pub faults : m.most_faults ≤ m.faults + one_if s.fail_armed
  pub most_cuts : m.cuts ≤ m.most_cuts
  pub most_faults : m.faults ≤ m.most_faults
  pub few_cuts : m.most_cuts < 2 ^ 63
  pub few_faults : m.most_faults < 2 ^ 63

-- a number of changes at which the device may stand
abbrev pub StandsAt : Now → Past → ℕ → Type 0
StandsAt (Up live) past k = (past ≡ live.past) × (k ≡ live.mark)
StandsAt (Down old may) past k = (past ≡ old) × AnyOf may k

-- the device stores a tree of the life's past, at which it may stand
pub record Stores (m : Machine) (s : State) : Type 0 where
  pub past : Past
  pub k : ℕ
  pub stands : StandsAt s.now past k
  pub saved : IsSaved (limits_in m) m.stable (tree_at past k) k
  pub armed : AreArmed m s

abbrev pub IsDown : Now → Type 0
IsDown (Up live) = ⊥
IsDown (Down past may) = Unit {0}

-- a device without a session: the life is down, and the device stores one of its trees
pub record ShowsBare (m : Machine) (s : State) : Type 0 where
  pub down : IsDown s.now
  pub stores : Stores m s

abbrev pub shows_point : MountState → State → Type 0
shows_point (Mounted session) s = ShowsState session.volume s
shows_point (Bare machine age rested) s = ShowsBare machine s

abbrev pub point_limits : MountState → Limits
point_limits (Mounted session) = limits_of session.volume
point_limits (Bare machine age rested) = limits_in machine

-- the greatest number of cuts and of faults that may come
abbrev pub most_of : Machine → ℕ
most_of m = max m.most_cuts m.most_faults

abbrev pub point_age : MountState → ℕ
point_age (Mounted session) = max (age_of (running_in session)) (most_of session.volume.tx.machine)
point_age (Bare machine age rested) = most_of machine

-- the greatest number that its device has written
abbrev pub device_age : MountState → ℕ
device_age (Mounted session) = session.device_age
device_age (Bare machine age rested) = age

-- the device that it has
abbrev pub point_machine : MountState → Machine
point_machine (Mounted session) = session.volume.tx.machine
point_machine (Bare machine age rested) = machine

-- a device that is up with a new file system alone, for which no cut and no fault is planned
pub record IsNew (m : Machine) : Type 0 where
  pub up : m.up ≡ true
  pub stable : m.stable ≡ first_objects
  pub idle : m.pending ≡ none_open
  pub cuts : m.most_cuts ≡ m.cuts
  pub faults : m.most_faults ≡ m.faults
  pub few_cuts : m.cuts ≤ 2 ^ 62
  pub few_faults : m.faults ≤ 2 ^ 62

-- what is known of each point: a session shows some state, and of a device without one the counts are those of one
abbrev pub Known : MountState → Type 0
Known (Mounted session) = (s : State) × ShowsState session.volume s
Known (Bare machine age rested) = (s : State) × AreArmed machine s

-- the image that a device without a session rests on
abbrev pub point_rested : MountState → Option Rested
point_rested (Mounted session) = None
point_rested (Bare machine age rested) = rested

-- the first damage of the objects that a device without a session stores
abbrev pub tree_damage : MountState → Damage → Type 0
tree_damage (Mounted session) damage = ⊥
tree_damage (Bare machine age rested) damage = IsTreeDamage (room_in machine) (heard machine.stable) damage

-- a mount takes the image, up to the limit on its numbers
abbrev pub IsPointWhole : MountState → Type 0
IsPointWhole point = whole_in (point_rested point)

-- the numbers at which the device may stand are those that a mount takes
abbrev pub IsLow : State → Type 0
IsLow s = (past : Past) (k : ℕ) → StandsAt s.now past k → (k < 2 ^ 62) × ((tree_at past k).next < 2 ^ 62)

-- behind a session the image is one that a mount takes; without one the device is kept as it was
abbrev pub KeptBy : MountState → Machine → Option Rested → Type 0
KeptBy (Mounted session) now rested = whole_in rested
KeptBy (Bare machine age before) now rested = (now ≡ machine) × (rested ≡ before)

-- what that damage is answered, and the objects stay
pub record RefusesTree (old : MountState) (damage : Damage) (line : Line) (answer : Answer) (new : MountState) : Type 0 where
  pub answers : AnswersDamage damage line answer
  pub damaged : tree_damage new damage
  pub stays : (point_machine new).stable ≡ (point_machine old).stable

-- a line and its answer. What is known stays so, and the answer tells each cut and each fault, and whether a cut is planned. From each state that was shown,
-- where nothing of it is refused, they lead to one that is shown now. On a damaged image they are what that damage is answered, and the image stays;
-- so it is of damaged objects in an image that a mount takes
pub record PointGoes (old : MountState) (line : Line) (answer : Answer) (new : MountState) : Type 0 where
  pub known : Known new
  pub limits : point_limits new ≡ point_limits old
  pub age : point_age new ≤ max (point_age old) (2 ^ 62) + line_age
  pub device : device_age new ≤ device_age old + line_age
  pub strikes : strikes_of (point_machine new) ≡ struck (strikes_of (point_machine old)) answer
  pub whole : IsPointWhole old → device_age old < 2 ^ 62 → IsPointWhole new
  pub each : (s : State) → shows_point old s → IsLow s → IsPointWhole old → device_age old < 2 ^ 62 →
      (t : State) × Event (point_limits old) s line answer t × shows_point new t
  pub damaged : (damage : Damage) → damaged_in (point_rested old) damage → AnswersDamage damage line answer × (point_rested new ≡ point_rested old)
  pub plans : PlansCut (point_machine old) line answer (point_machine new)
  pub unmountable : (damage : Damage) → tree_damage old damage → IsPointWhole old → device_age old < 2 ^ 62 → RefusesTree old damage line answer new
