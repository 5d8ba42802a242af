-- What is said of a device that is up holds in one way, so that a type may keep it.
use Rattle.std.proofs.Common.{ℕ, ◌+◌, cond, eqb, List, [], ◌∷◌, Option, Some, None}
use Rattle.std.proofs.Props.{props}
use Rattle.std.specs.Coded.{×_prop, Unit-prop, le_prop}
use Rattle.std.specs.List.{AllByRecursion-prop, IsDistinct-prop}
use Rattle.kv_nand.specs.Flash.{Flash, Image}
use Rattle.kssd_entry.specs.declared.entry.Entry.{Entry}
use Rattle.kssd_model.specs.declared.anchor.Anchor.{Anchor}
use Rattle.kssd_model.specs.Groups.{LogPage, Walk, WithinBlocks, AreAllowed}
use Rattle.kssd_image.specs.AnchorForm.{IsAnchorForm}
use Rattle.kssd_image.specs.Whole.{IsLogWhole, IsIndexOf}
use Rattle.kssd_image.proofs.Props.{IsWhole-prop}
use Rattle.kssd_run.specs.declared.reader.Run.{Run}
use Rattle.kssd_run.specs.Run.{StandsRun}
use Rattle.kssd_levels.specs.declared.levels.Levels.{Levels}
use Rattle.kssd_levels.specs.Runs.{StandRuns}
use Rattle.kssd_levels.specs.Levels.{StandLevels}
use Rattle.kssd_log.specs.declared.place.Place.{Place}
use Rattle.kssd_compact.specs.declared.job.Job.{Job}
use Rattle.kssd_compact.specs.Job.{IsJobOver}
use Rattle.kssd_levels.specs.declared.kind.JobKind.{JobKind}
use Rattle.kssd_index.specs.declared.index.Older.{Older}
use Rattle.kssd_index.specs.declared.index.Index.{Index}
use Rattle.kssd_root.specs.declared.root.Root.{Root}
use Rattle.kssd_root.specs.Standing.{IsAnchored, AreRuns, IsRoot, EndsAt}
use Rattle.kssd_root.specs.Following.{IsSplit}
use Rattle.kssd_root.specs.UnderWay.{IsUnderWay as IsJobUnderWay}
use Rattle.kssd_index.specs.Standing.{EndsWithin, IsRunning, StandsOver, IsIndex}
use Rattle.kssd_values.specs.declared.filling.Filling.{Filling}
use Rattle.kssd_values.specs.declared.values.Values.{Values}
use Rattle.kssd_values.specs.Pages.{FillsBlock, FillsIn, Fills}
use Rattle.kssd_tx.specs.Lists.{Transactions}
use Rattle.kssd_reclaim.specs.declared.reclaim.Reclaim.{Reclaim}
use Rattle.kssd_reclaim.specs.Reclaim.{Collects, IsCopy}
use Rattle.kssd_machine.specs.Collecting.{HasTargets, AreFew}
use Rattle.kssd_machine.specs.Marked.{AreMarked}
use Rattle.kssd_mounted.specs.declared.mounted.Mounted.{Mounted}
use Rattle.kssd_mounted.specs.Collections.{IsUnderWay, CollectsIn}
use Rattle.kssd_mounted.specs.Standing.{Stands}

run-prop : (device : ℕ) (image : Image) (run : Run) → IsProp (StandsRun run device image)
run-prop device image run = Prim.hlevel props

runs-prop : (runs : List Run) (device : ℕ) (image : Image) → IsProp (StandRuns runs device image)
runs-prop runs device image = AllByRecursion-prop (λ run. StandsRun run device image) (run-prop device image) runs

levels-prop : (levels : Levels) (device : ℕ) (image : Image) → IsProp (StandLevels levels device image)
levels-prop levels device image = Prim.hlevel (props, runs-prop)

WithinBlocks-prop : (turns : ℕ) (xs : List LogPage) → IsProp (WithinBlocks turns xs)
WithinBlocks-prop turns [] = Unit-prop
WithinBlocks-prop turns (x ∷ xs) = ×_prop le_prop (WithinBlocks-prop (turns + cond (eqb x.flags 2) 1 0) xs)

AreAllowed-prop : (xs : List LogPage) → IsProp (AreAllowed xs)
AreAllowed-prop xs = Prim.hlevel (props, WithinBlocks-prop 0 xs)

IsLogWhole-prop : (image : Image) (log : Walk) → IsProp (IsLogWhole image log)
IsLogWhole-prop image log = Prim.hlevel (props, AreAllowed-prop log.pages)

IsAnchorForm-prop : (blocks : ℕ) (anchor : Anchor) → IsProp (IsAnchorForm blocks anchor)
IsAnchorForm-prop blocks anchor = Prim.hlevel (props, IsDistinct-prop)

IsIndexOf-prop : (blocks : ℕ) (image : Image) (anchor : Anchor) → IsProp (IsIndexOf blocks image anchor)
IsIndexOf-prop blocks image anchor = Prim.hlevel (props, IsAnchorForm-prop, IsLogWhole-prop)

IsAnchored-prop : (page : ℕ) (anchor : Anchor) (blocks : ℕ) (image : Image) → IsProp (IsAnchored page anchor blocks image)
IsAnchored-prop page anchor blocks image = Prim.hlevel (props, IsIndexOf-prop)

AreRuns-prop : (levels : Levels) (anchor : Anchor) (blocks : ℕ) (image : Image) → IsProp (AreRuns levels anchor blocks image)
AreRuns-prop levels anchor blocks image = Prim.hlevel (props, levels-prop)

IsRoot-prop : (root : Root) (blocks : ℕ) (image : Image) → IsProp (IsRoot root blocks image)
IsRoot-prop root blocks image = Prim.hlevel (props, IsAnchored-prop, AreRuns-prop)

EndsAt-prop : (place : Place) (anchor : Anchor) (image : Image) → IsProp (EndsAt place anchor image)
EndsAt-prop place anchor image = Prim.hlevel props

IsSplit-prop : (table : List Entry) (later : Anchor) (root : Root) (blocks : ℕ) (image : Image) → IsProp (IsSplit table later root blocks image)
IsSplit-prop table later root blocks image = Prim.hlevel (props, IsLogWhole-prop)

EndsWithin-prop : (place : Place) (anchor : Anchor) (image : Image) → IsProp (EndsWithin place anchor image)
EndsWithin-prop place anchor image = Prim.hlevel props

IsJobOver-prop : (kind : JobKind) (levels : Levels) (job : Job) → IsProp (IsJobOver kind levels job)
IsJobOver-prop kind levels job = Prim.hlevel props

IsJobUnderWay-prop : (kind : JobKind) (job : Job) (table : List Entry) (root : Root) (blocks : ℕ) (image : Image) → IsProp (IsJobUnderWay kind job table root blocks image)
IsJobUnderWay-prop kind job table root blocks image = Prim.hlevel (props, IsJobOver-prop)

IsRunning-prop : (job : Job) (older : Option Older) (root : Root) (blocks : ℕ) (image : Image) → IsProp (IsRunning job older root blocks image)
IsRunning-prop job older root blocks image = Prim.hlevel (props, IsJobUnderWay-prop)

StandsOver-prop : (job : Option Job) (older : Option Older) (root : Root) (blocks : ℕ) (image : Image) → IsProp (StandsOver job older root blocks image)
StandsOver-prop None older root blocks image = Unit-prop
StandsOver-prop (Some job) older root blocks image = IsRunning-prop job older root blocks image

pub IsIndex-prop : (index : Index) (blocks : ℕ) (image : Image) → IsProp (IsIndex index blocks image)
IsIndex-prop index blocks image = Prim.hlevel (props, IsRoot-prop, IsSplit-prop, EndsAt-prop, EndsWithin-prop, StandsOver-prop)

FillsBlock-prop : (filling : Filling) (image : Image) → IsProp (FillsBlock filling image)
FillsBlock-prop filling image = Prim.hlevel props

FillsIn-prop : (filling : Option Filling) (image : Image) → IsProp (FillsIn filling image)
FillsIn-prop None image = Unit-prop
FillsIn-prop (Some filling) image = FillsBlock-prop filling image

pub Fills-prop : (v : Values) (image : Image) → IsProp (Fills v image)
Fills-prop v image = Prim.hlevel (props, FillsIn-prop)

AreMarked-prop : (v : Values) (visible : List Entry) (lists : Transactions) → IsProp (AreMarked v visible lists)
AreMarked-prop v visible lists = Prim.hlevel props

IsUnderWay-prop : (r : Reclaim) (v : Values) (image : Image) → IsProp (IsUnderWay r v image)
IsUnderWay-prop r v image = Prim.hlevel props

CollectsIn-prop : (c : Option Reclaim) (v : Values) (image : Image) → IsProp (CollectsIn c v image)
CollectsIn-prop None v image = Prim.hlevel props
CollectsIn-prop (Some r) v image = IsUnderWay-prop r v image

pub Stands-prop : (m : Mounted) (flash : Flash) → IsProp (Stands m flash)
Stands-prop m flash = Prim.hlevel (props, IsWhole-prop, IsIndex-prop, Fills-prop, AreMarked-prop, CollectsIn-prop)
