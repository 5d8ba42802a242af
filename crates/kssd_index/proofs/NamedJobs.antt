-- An anchor names the run of a job that is done.
use Rattle.std.proofs.Common.{◌≡◌, ◌≢◌, ℕ, ◌+◌, ◌≤◌, List, [], Option, Some, None, refl, sym, subst, arith}
use Rattle.kv_nand.specs.Flash.{Image, Flash}
use Rattle.kv_nand.specs.Working.{Works}
use Rattle.kv_nand.proofs.Chaining.{works_blocks}
use Rattle.kssd_entry.specs.declared.entry.Entry.{Entry}
use Rattle.kssd_image.specs.Whole.{age_by, age_in}
use Rattle.kssd_levels.specs.declared.kind.JobKind.{JobKind}
use Rattle.kssd_levels.specs.declared.kind.JobKind.TheVariants.{Flush, Zero, One, Collect}
use Rattle.kssd_levels.specs.Levels.{levels_map}
use Rattle.kssd_compact.specs.declared.job.Job.{Job}
use Rattle.kssd_root.specs.declared.root.Root.{Root}
use Rattle.kssd_root.specs.Standing.{IsRoot}
use Rattle.kssd_root.specs.Following.{ShowAlike, SameLog, with_log}
use Rattle.kssd_root.specs.UnderWay.{IsUnderWay, IsFlushing}
use Rattle.kssd_root.proofs.Moving.{root_age}
use Rattle.kssd_index.specs.declared.index.Older.{Older}
use Rattle.kssd_index.specs.declared.index.Index.{Index}
use Rattle.kssd_index.specs.Standing.{IsIndex, job_table, older_entries}
use Rattle.kssd_index.proofs.Flushing.{same_index, flushed}
use Rattle.kssd_index.proofs.JobSteps.{named_on}

-- ---- a merge

-- it writes no table
pub merge_table : (kind : JobKind) (older : Option Older) → kind ≢ Flush → job_table kind older ≡ []
merge_table Flush older other = absurd (other refl)
merge_table Zero older other = refl
merge_table One older other = refl
merge_table Collect older other = refl

pub merge_way : (kind : JobKind) (job : Job) (index : Index) (blocks : ℕ) (image : Image) → kind ≢ Flush → IsUnderWay kind job (job_table kind index.older) index.root blocks image → IsUnderWay kind job [] index.root blocks image
merge_way kind job index blocks image other way = subst (λ (es : List Entry). IsUnderWay kind job es index.root blocks image) (merge_table kind index.older other) way

pub merge_named : (index : Index) (root : Root) (a b : Flash) → index.job ≡ None → IsIndex index a.blocks a.image → IsRoot root b.blocks b.image → SameLog index.root.anchor a.image root.anchor b.image → ShowAlike (levels_map index.root.levels a.image) (levels_map root.levels b.image)
    → age_in b.image ≤ age_by a.image index.root.anchor + 1 → Works a b 2 32 → IsIndex (record index { root = root; age = index.age + 1 }) b.blocks b.image
merge_named index root a b none h is log alike aged works =
    let same : b.blocks ≡ a.blocks = works_blocks a b 2 32 works in
    let named = named_on index root (index.age + 1) a.blocks a.image b.image h (subst (λ (n : ℕ). IsRoot root n b.image) same is) log alike (omega (arith, aged, h.numbers)) in
    subst (λ (p : Option Job × ℕ). IsIndex (record index { root = root; age = index.age + 1; job = p.0 }) p.1 b.image) (λ i. (sym none i, sym same i)) named

-- ---- a flush

older_is : (index : Index) (older : Older) (blocks : ℕ) (image : Image) → index.older ≡ Some older → IsIndex index blocks image → IsIndex (record index { older = Some older }) blocks image
older_is index older blocks image is h = subst (λ (x : Index). IsIndex x blocks image) (same_index index (Some older) is) h

pub flushing : (index : Index) (older : Older) (job : Job) (blocks : ℕ) (image : Image) → index.older ≡ Some older → IsIndex index blocks image → IsUnderWay Flush job (older_entries index.older) index.root blocks image → IsFlushing job (with_log index.root.anchor older.log_block older.log_seq) index.root blocks image
flushing index older job blocks image is h way =
    let g = older_is index older blocks image is h in
    record {
      table = older.table;
      few = omega (arith, g.older_few);
      split = g.split;
      way = subst (λ (o : Option Older). IsUnderWay Flush job (older_entries o) index.root blocks image) is way;
    }

pub flush_named : (index : Index) (older : Older) (left : Option Older) (root : Root) (a b : Flash) → index.older ≡ Some older → left ≡ None → index.job ≡ None → IsIndex index a.blocks a.image → IsRoot root b.blocks b.image → SameLog (with_log index.root.anchor older.log_block older.log_seq) a.image root.anchor b.image
    → age_in b.image ≤ age_by a.image index.root.anchor + 1 → Works a b 2 32 → IsIndex (record index { root = root; older = left; age = index.age + 1 }) b.blocks b.image
flush_named index older left root a b is gone none h root_is log aged works =
    let same : b.blocks ≡ a.blocks = works_blocks a b 2 32 works in
    let at : IsRoot root a.blocks b.image = subst (λ (n : ℕ). IsRoot root n b.image) same root_is in
    let still : SameLog index.root.anchor a.image index.root.anchor a.image = record { block = refl; seq = refl; ring = λ q low high. refl } in
    let now = flushed index older index.root.anchor root (index.age + 1) a.blocks a.image a.image b.image (older_is index older a.blocks a.image is h) still log at (omega (arith, root_age root a.blocks b.image at, aged, h.numbers)) in
    let unchanged : IsIndex (record index { root = root; older = None; age = index.age + 1 }) b.blocks b.image =
    subst (λ (p : Option Job × ℕ). IsIndex (record index { root = root; older = None; age = index.age + 1; job = p.0 }) p.1 b.image) (λ i. (sym none i, sym same i)) now in
    subst (λ (o : Option Older). IsIndex (record index { root = root; older = o; age = index.age + 1 }) b.blocks b.image) (sym gone) unchanged
