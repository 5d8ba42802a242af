-- A job that is under way stays where nothing is written in blocks for runs.
use Rattle.std.proofs.Common.{true, false, ◌≡◌, ℕ, ◌/◌, List, Option, Some, None, refl, sym, subst, inr, arith}
use Rattle.std.proofs.lemmas.Bool.{false≢true}
use Rattle.kv_nand.specs.Flash.{Image}
use Rattle.kssd_entry.specs.declared.entry.Entry.{Entry}
use Rattle.kssd_layout.specs.Numbers.{region_in}
use Rattle.kssd_layout.specs.declared.region.Region.TheVariants as regions
use Rattle.kssd_log.specs.Append.{StaysOutside}
use Rattle.kssd_frames.proofs.Places.{run_is_behind}
use Rattle.kssd_levels.specs.declared.kind.JobKind.{JobKind}
use Rattle.kssd_levels.specs.declared.kind.JobKind.TheVariants.{Flush, Zero, One, Collect}
use Rattle.kssd_compact.specs.declared.job.Job.{Job}
use Rattle.kssd_compact.specs.Job.{job_kind}
use Rattle.kssd_root.specs.declared.root.Root.{Root}
use Rattle.kssd_root.specs.Standing.{IsRoot}
use Rattle.kssd_root.proofs.UnderWay.{way_beside}
use Rattle.kssd_root.specs.UnderWay.{IsUnderWay}
use Rattle.kssd_index.specs.declared.index.Older.{Older}
use Rattle.kssd_index.specs.Standing.{StandsOver, job_table}

pub over_beside : (job : Option Job) (older : Option Older) (root : Root) (blocks : ℕ) (old new : Image) → ((q : ℕ) → region_in blocks (q / 32) ≡ regions.Run → new q ≡ old q) → IsRoot root blocks old → StandsOver job older root blocks old → StandsOver job older root blocks new
over_beside None older root blocks old new same h over = tt
over_beside (Some job) older root blocks old new same h over = record {
  way = way_beside (job_kind job) job (job_table (job_kind job) older) root blocks old new same h over.way;
  frozen = over.frozen;
}

-- a job that is under way is none that flushes where no table is frozen, and so it stands beside one that is
no_table : (kind : JobKind) (older : Older) → (kind ≡ Flush → false ≡ true) → job_table kind (Some older) ≡ job_table kind None
no_table Flush older frozen = absurd (false≢true (frozen refl))
no_table Zero older frozen = refl
no_table One older frozen = refl
no_table Collect older frozen = refl

pub over_frozen : (job : Option Job) (older : Older) (root : Root) (blocks : ℕ) (image : Image) → StandsOver job None root blocks image → StandsOver job (Some older) root blocks image
over_frozen None older root blocks image over = tt
over_frozen (Some job) older root blocks image over = record {
  way = subst (λ (es : List Entry). IsUnderWay (job_kind job) job es root blocks image) (sym (no_table (job_kind job) older over.frozen)) over.way;
  frozen = λ e. refl;
}

-- the ring is no block for runs
pub ring_beside : (blocks : ℕ) (old new : Image) → StaysOutside old new → (q : ℕ) → region_in blocks (q / 32) ≡ regions.Run → new q ≡ old q
ring_beside blocks old new outside q run = let low = run_is_behind blocks (q / 32) run in outside q (inr (omega (arith, low)))
