-- What the lines of a script ask of the device under them, in their own words.
use Rattle.std.specs.Prelude.{◌≡◌, List, [], ◌∷◌, Some}
use Rattle.kv_device.specs.Asked.{Asked, asks_cut, asks_fault}
use Rattle.kfs_model.specs.declared.Line.{Line}
use Rattle.kfs_model.specs.declared.Line.TheVariants as lines
use Rattle.kfs_model.specs.declared.Answer.{Answer}
use Rattle.kfs_model.specs.declared.Answer.TheVariants as answers
use Rattle.kfs_posix.specs.Answering.{Asks}
use Rattle.kfs_runner.specs.declared.mount_point.MountPoint.{MountPoint}
use Rattle.kfs_runner.specs.declared.mount_point.MountPoint.TheVariants as points

-- what a point's device was asked for, by what one without a session was
abbrev pub point_asked : {A B : Type 0} → (A → Asked) → MountPoint A B → Asked
point_asked asked (points.Mounted session) = session.asked
point_asked asked (points.Bare store) = asked store

-- `@cut` plans exactly its cut, `@fail` its fault, and `@work` asks a session that is up for as many operations. What
-- calls and mounts leave of a plan is theirs
abbrev pub LineAsks : Line → Answer → Asked → Asked → Type 0
LineAsks (lines.Cut n how) answer old new = new ≡ asks_cut old n how
LineAsks (lines.Fail kind n) answer old new = new ≡ asks_fault old kind n
LineAsks (lines.Call call) (answers.Reply reply) old new = Asks call reply new
LineAsks line answer old new = Unit {0}

-- what is planned of the one is planned of the other
pub record SamePlans (old new : Asked) : Type 0 where
  pub cut : new.cut ≡ old.cut
  pub fault : new.fault ≡ old.fault

-- what the line plans is planned
abbrev pub IsPlanned : Line → Asked → Type 0
IsPlanned (lines.Cut n how) asked = asked.cut ≡ Some (n, how)
IsPlanned (lines.Fail kind n) asked = asked.fault ≡ Some (kind, n)
IsPlanned line asked = Unit {0}

-- what the last line plans is planned
abbrev pub IsLastPlanned : List Line → Asked → Type 0
IsLastPlanned [] asked = Unit {0}
IsLastPlanned (line ∷ []) asked = IsPlanned line asked
IsLastPlanned (line ∷ next ∷ more) asked = IsLastPlanned (next ∷ more) asked
