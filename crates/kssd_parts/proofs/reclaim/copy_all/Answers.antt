use Rattle.std.proofs.Common.{◌∙◌, sym, subst, arith}
use Rattle.kv_nand.proofs.Chaining.{works_blocks}
use Rattle.kssd_values.specs.Blocks.{IsClosed}
use Rattle.kssd_values.proofs.Standing.{live_stays}
use Rattle.kssd_reclaim.proofs.Stepping.{step_block, step_device, step_live, step_closed, step_copied, step_block_left}
use Rattle.kssd_parts.proofs.reclaim.copy_all.Goals as goal

pub step-requires-clause-stands : goal.step-requires-clause-stands
step-requires-clause-stands g c = λ page here live. c.loop-count.invariant.stands.live.each page live

pub loop-count-preserved : goal.loop-count-preserved
loop-count-preserved g c =
    let flash = g.N.Nand.flash in
    let s = c.in-Ok-false.ensures in
    let i = c.loop-count.invariant in
    let r = c.loop-count.reclaim in
    let v = c.loop-count.values in
    let f = flash c.loop-count.nand in
    record {
      stands = record {
        device = step_device r c.step.new.self v c.step.new.values f (flash c.step.new.nand) s.ok ∙ i.stands.device ∙ sym (works_blocks f (flash c.step.new.nand) 1 2 s.works);
        fills = s.fills;
        live = live_stays v c.step.new.values f.image (flash c.step.new.nand).image i.stands.live s.keeps (step_live r c.step.new.self v c.step.new.values f (flash c.step.new.nand) s.ok);
      };
      closed = subst (IsClosed c.step.new.values) (sym (step_block r c.step.new.self v c.step.new.values f (flash c.step.new.nand) s.ok)) (step_closed r c.step.new.self v c.step.new.values f (flash c.step.new.nand) s.ok r.block i.closed);
      few = omega (arith, step_copied r c.step.new.self v c.step.new.values f (flash c.step.new.nand) s.ok, i.few);
      block = step_block_left r c.step.new.self v c.step.new.values f (flash c.step.new.nand) s.ok i.block;
    }

pub returns-in-Ok-true-clause-stands : goal.returns-in-Ok-true-clause-stands
returns-in-Ok-true-clause-stands g c =
    let flash = g.N.Nand.flash in
    let s = c.in-Ok-true.ensures in
    let i = c.loop-count.invariant in
    let r = c.loop-count.reclaim in
    let v = c.loop-count.values in
    let f = flash c.loop-count.nand in
    record {
      device = step_device r c.step.new.self v c.step.new.values f (flash c.step.new.nand) s.ok ∙ i.stands.device ∙ sym (works_blocks f (flash c.step.new.nand) 1 2 s.works);
      fills = s.fills;
      live = live_stays v c.step.new.values f.image (flash c.step.new.nand).image i.stands.live s.keeps (step_live r c.step.new.self v c.step.new.values f (flash c.step.new.nand) s.ok);
    }

pub returns-in-Ok-true-clause-closed : goal.returns-in-Ok-true-clause-closed
returns-in-Ok-true-clause-closed g c =
    let flash = g.N.Nand.flash in
    let s = c.in-Ok-true.ensures in
    let r = c.loop-count.reclaim in
    let v = c.loop-count.values in
    let f = flash c.loop-count.nand in
    subst (IsClosed c.step.new.values) (sym (step_block r c.step.new.self v c.step.new.values f (flash c.step.new.nand) s.ok)) (step_closed r c.step.new.self v c.step.new.values f (flash c.step.new.nand) s.ok r.block c.loop-count.invariant.closed)
