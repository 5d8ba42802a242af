use Rattle.std.proofs.Common.{◌≡◌, ◌∙◌, ℕ, ◌/◌, false, List, sym, ap, subst}
use Rattle.std.proofs.Math.Logic.{∥∥₁_elim, ∥∥₁_map}
use Rattle.kv_nand.specs.Flash.{Image}
use Rattle.kv_nand.proofs.Chaining.{works_blocks}
use Rattle.kssd_model.proofs.ReadingOn.{reads_image}
use Rattle.kssd_run.specs.Writing.{page_waits, run_blocks}
use Rattle.kssd_levels.specs.Runs.{has_block}
use Rattle.kssd_compact.specs.Job.{StandsJob, CanStepJob}
use Rattle.kssd_compact.proofs.Merely.{bools-prop, source-prop}
use Rattle.kssd_compact.proofs.Jobs.{job_writes, room_of, blocks_of, device_of, step_of, filled, fills_stands, outside_blocks}
use Rattle.kssd_compact.proofs.job.Job.step.Goals as goal

pub write-requires-clause-room : goal.write-requires-clause-room
write-requires-clause-room g c = room_of c.args.self.now _ _ (sym c.waits.ensures ∙ c.if-waits.true) c.requires

pub write-requires-clause-blocks : goal.write-requires-clause-blocks
write-requires-clause-blocks g c = blocks_of c.args.self.now _ _ c.requires

pub write-requires-clause-device : goal.write-requires-clause-device
write-requires-clause-device g c = device_of c.args.self.now _ _ c.requires

pub write-requires-clause-writes : goal.write-requires-clause-writes
write-requires-clause-writes g c = step_of c.args.self.now _ _ c.requires

pub returns-in_err-write-clause-outside : goal.returns-in_err-write-clause-outside
returns-in_err-write-clause-outside g c page none =
    c.write.ensures.outside page (outside_blocks c.args.self.now.writer (page / 32) (room_of c.args.self.now _ _ (sym c.waits.ensures ∙ c.if-waits.true) c.requires) none)

pub returns-then-waits-clause-outside : goal.returns-then-waits-clause-outside
returns-then-waits-clause-outside g c page none =
    c.write.ensures.outside page (outside_blocks c.args.self.now.writer (page / 32) (room_of c.args.self.now _ _ (sym c.waits.ensures ∙ c.if-waits.true) c.requires) none)

pub returns-then-waits-clause-job : goal.returns-then-waits-clause-job
returns-then-waits-clause-job g c list h =
    let start = g.N.Nand.flash c.args.nand.now in
    let end = g.N.Nand.flash c.write.new.nand in
    let room = room_of c.args.self.now start.blocks start.image (sym c.waits.ensures ∙ c.if-waits.true) c.requires in
    let job : StandsJob c.write.new.self list start.blocks end.image = ∥∥₁_map h (λ j. job_writes c.args.self.now c.write.new.self list start.blocks start.image end.image room c.write.ensures.outside c.in_ok-write.ensures.writes j) in
    subst (λ (n : ℕ). StandsJob c.write.new.self list n end.image) (sym (works_blocks start end 1 0 c.in_ok-write.ensures.works)) job

pub fill-requires-clause-open : goal.fill-requires-clause-open
fill-requires-clause-open g c = ∥∥₁_elim c.requires (bools-prop _ _) (λ p. sym p.1.closed)

pub fill-requires-clause-stands : goal.fill-requires-clause-stands
fill-requires-clause-stands g c going = ∥∥₁_elim c.requires (source-prop _ _ _) (λ p. p.1.stands going)

pub write-requires-then-waits-2-clause-room : goal.write-requires-then-waits-2-clause-room
write-requires-then-waits-2-clause-room g c =
    let start = g.N.Nand.flash c.args.nand.now in
    let mid = g.N.Nand.flash c.fill.new.nand in
    let waits : page_waits c.args.self.now.writer ≡ false = sym c.waits.ensures ∙ c.if-waits.false in
    let job : CanStepJob c.fill.new.self mid.blocks mid.image = filled c.args.self.now c.fill.new.self start mid waits c.in_ok-fill.ensures.fills c.in_ok-fill.ensures.reads c.requires in
    room_of c.fill.new.self mid.blocks mid.image (sym c.waits-2.ensures ∙ c.if-waits-2.true) job

pub write-requires-then-waits-2-clause-blocks : goal.write-requires-then-waits-2-clause-blocks
write-requires-then-waits-2-clause-blocks g c =
    let start = g.N.Nand.flash c.args.nand.now in
    let mid = g.N.Nand.flash c.fill.new.nand in
    let waits : page_waits c.args.self.now.writer ≡ false = sym c.waits.ensures ∙ c.if-waits.false in
    let job : CanStepJob c.fill.new.self mid.blocks mid.image = filled c.args.self.now c.fill.new.self start mid waits c.in_ok-fill.ensures.fills c.in_ok-fill.ensures.reads c.requires in
    blocks_of c.fill.new.self mid.blocks mid.image job

pub write-requires-then-waits-2-clause-device : goal.write-requires-then-waits-2-clause-device
write-requires-then-waits-2-clause-device g c =
    let start = g.N.Nand.flash c.args.nand.now in
    let mid = g.N.Nand.flash c.fill.new.nand in
    let waits : page_waits c.args.self.now.writer ≡ false = sym c.waits.ensures ∙ c.if-waits.false in
    let job : CanStepJob c.fill.new.self mid.blocks mid.image = filled c.args.self.now c.fill.new.self start mid waits c.in_ok-fill.ensures.fills c.in_ok-fill.ensures.reads c.requires in
    device_of c.fill.new.self mid.blocks mid.image job

pub write-requires-then-waits-2-clause-writes : goal.write-requires-then-waits-2-clause-writes
write-requires-then-waits-2-clause-writes g c =
    let start = g.N.Nand.flash c.args.nand.now in
    let mid = g.N.Nand.flash c.fill.new.nand in
    let waits : page_waits c.args.self.now.writer ≡ false = sym c.waits.ensures ∙ c.if-waits.false in
    let job : CanStepJob c.fill.new.self mid.blocks mid.image = filled c.args.self.now c.fill.new.self start mid waits c.in_ok-fill.ensures.fills c.in_ok-fill.ensures.reads c.requires in
    step_of c.fill.new.self mid.blocks mid.image job

pub returns-in_err-write-2-clause-outside : goal.returns-in_err-write-2-clause-outside
returns-in_err-write-2-clause-outside g c page none =
    let start = g.N.Nand.flash c.args.nand.now in
    let mid = g.N.Nand.flash c.fill.new.nand in
    let waits : page_waits c.args.self.now.writer ≡ false = sym c.waits.ensures ∙ c.if-waits.false in
    let job : CanStepJob c.fill.new.self mid.blocks mid.image = filled c.args.self.now c.fill.new.self start mid waits c.in_ok-fill.ensures.fills c.in_ok-fill.ensures.reads c.requires in
    let own : has_block (run_blocks c.fill.new.self.writer) (page / 32) ≡ false = ap (λ (bs : List ℕ). has_block bs (page / 32)) c.in_ok-fill.ensures.fills.place.blocks ∙ none in
    c.write-then-waits-2.ensures.outside page (outside_blocks c.fill.new.self.writer (page / 32) (room_of c.fill.new.self mid.blocks mid.image (sym c.waits-2.ensures ∙ c.if-waits-2.true) job) own)
    ∙ ap (λ (im : Image). im page) (reads_image start mid c.in_ok-fill.ensures.reads)

pub returns-then-waits-2-clause-outside : goal.returns-then-waits-2-clause-outside
returns-then-waits-2-clause-outside g c page none =
    let start = g.N.Nand.flash c.args.nand.now in
    let mid = g.N.Nand.flash c.fill.new.nand in
    let waits : page_waits c.args.self.now.writer ≡ false = sym c.waits.ensures ∙ c.if-waits.false in
    let job : CanStepJob c.fill.new.self mid.blocks mid.image = filled c.args.self.now c.fill.new.self start mid waits c.in_ok-fill.ensures.fills c.in_ok-fill.ensures.reads c.requires in
    let own : has_block (run_blocks c.fill.new.self.writer) (page / 32) ≡ false = ap (λ (bs : List ℕ). has_block bs (page / 32)) c.in_ok-fill.ensures.fills.place.blocks ∙ none in
    c.write-then-waits-2.ensures.outside page (outside_blocks c.fill.new.self.writer (page / 32) (room_of c.fill.new.self mid.blocks mid.image (sym c.waits-2.ensures ∙ c.if-waits-2.true) job) own)
    ∙ ap (λ (im : Image). im page) (reads_image start mid c.in_ok-fill.ensures.reads)

pub returns-then-waits-2-clause-job : goal.returns-then-waits-2-clause-job
returns-then-waits-2-clause-job g c list h =
    let start = g.N.Nand.flash c.args.nand.now in
    let mid = g.N.Nand.flash c.fill.new.nand in
    let waits : page_waits c.args.self.now.writer ≡ false = sym c.waits.ensures ∙ c.if-waits.false in
    let job : CanStepJob c.fill.new.self mid.blocks mid.image = filled c.args.self.now c.fill.new.self start mid waits c.in_ok-fill.ensures.fills c.in_ok-fill.ensures.reads c.requires in
    let end = g.N.Nand.flash c.write-then-waits-2.new.nand in
    let room = room_of c.fill.new.self mid.blocks mid.image (sym c.waits-2.ensures ∙ c.if-waits-2.true) job in
    let fed = fills_stands c.args.self.now c.fill.new.self list start mid waits c.in_ok-fill.ensures.fills c.in_ok-fill.ensures.reads h in
    let done : StandsJob c.write-then-waits-2.new.self list mid.blocks end.image = ∥∥₁_map fed (λ j. job_writes c.fill.new.self c.write-then-waits-2.new.self list mid.blocks mid.image end.image room c.write-then-waits-2.ensures.outside c.in_ok-write-2.ensures.writes j) in
    subst (λ (n : ℕ). StandsJob c.write-then-waits-2.new.self list n end.image) (sym (works_blocks mid end 1 0 c.in_ok-write-2.ensures.works)) done

pub returns-clause-job : goal.returns-clause-job
returns-clause-job g c list h =
    let start = g.N.Nand.flash c.args.nand.now in
    let mid = g.N.Nand.flash c.fill.new.nand in
    let waits : page_waits c.args.self.now.writer ≡ false = sym c.waits.ensures ∙ c.if-waits.false in
    let job : CanStepJob c.fill.new.self mid.blocks mid.image = filled c.args.self.now c.fill.new.self start mid waits c.in_ok-fill.ensures.fills c.in_ok-fill.ensures.reads c.requires in
    fills_stands c.args.self.now c.fill.new.self list start mid waits c.in_ok-fill.ensures.fills c.in_ok-fill.ensures.reads h
