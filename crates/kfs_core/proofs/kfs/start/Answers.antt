use Rattle.std.proofs.Common.{◌≤◌, ◌∙◌, sym, arith, ap, subst}
use Rattle.std.specs.FinMap as objects
use Rattle.kv_device.specs.Objects.{Objects}
use Rattle.kfs_tx.specs.Tx.{Tx, opened, seen}
use Rattle.kfs_tx.proofs.Opening.{sees_stable}
use Rattle.kv_device.specs.Machine.{Machine}
use Rattle.kfs_core.specs.declared.fault.HostFault.{HostFault}
use Rattle.kfs_core.specs.Clearing.{Clears, ClearFails}
use Rattle.kfs_core.specs.Starting.{NotMounted, host_fault}
use Rattle.kfs_core.proofs.Refused.{fails_clear}
use Rattle.kfs_core.specs.Counted.{charge_in, chunks_in}
use Rattle.kfs_core.proofs.Cleared.{sees_now, now_cleared}
use Rattle.kfs_damages.specs.Damages.{named_charge, named_chunks}
use Rattle.kfs_judge.specs.Judging.{heard, room_in}
use Rattle.kfs_core.specs.Clearing.{IsRoomy, IsTidy}
use Rattle.kfs_core.proofs.Roomy.{room_of}
use Rattle.kfs_core.proofs.Tidied.{clear_tidy}
use Rattle.kfs_core.proofs.kfs.start.Goals as goal
use Rattle.kfs_core.proofs.kfs.start.Goals.{then-taken-keys-via-then-taken-keys, then-taken-keys-via-else-taken-keys+then-taken-pages}

pub left_over-requires-clause-few : goal.left_over-requires-clause-few
left_over-requires-clause-few g c =
    let m = g.D.Device.machine c.args.device in
    let sound = g.met.D.Device.sound c.args.device in
    let now = ap seen c.in-Ok.ensures.ok ∙ sees_stable m c.requires.up c.requires.idle in
    let same = ap (λ (o : Objects). objects.len o) now in
    let stored = sound.keys in
    omega arith

pub returns-else-taken-pages-clause-ok : goal.returns-else-taken-pages-clause-ok
returns-else-taken-pages-clause-ok g c =
    let m = g.D.Device.machine c.args.device in
    let r = c.left_over.new.running.tx in
    let clears = subst (λ (old : Tx). Clears old r) c.in-Ok.ensures.ok c.in-Ok-left_over.ensures.clears in
    let now = sees_now m c.args.head.changes c.args.head.next r c.requires.up c.requires.idle clears in
    record {
      cleared = now_cleared m c.args.head.changes c.args.head.next r c.requires.up c.requires.idle clears c.in-Ok-left_over.ensures.none;
      tx = clears.same;
      keys = c.limits-keys.ensures.keys;
      pages = c.limits-keys.ensures.pages;
      charge = c.in-Ok-left_over.ensures.charge ∙ ap charge_in now;
      chunks = c.in-Ok-left_over.ensures.chunks ∙ ap chunks_in now;
    }

pub left_over-requires-clause-tidy : goal.left_over-requires-clause-tidy
left_over-requires-clause-tidy g c =
    let m = g.D.Device.machine c.args.device in
    let sound = g.met.D.Device.sound c.args.device in
    let now = ap seen c.in-Ok.ensures.ok ∙ sees_stable m c.requires.up c.requires.idle in
    let stored = sound.keys in
    subst IsTidy (sym now) (clear_tidy (room_in m) m.stable (omega (arith, stored, c.requires.room)) c.requires.clear)

pub unreachable-requires : goal.unreachable-requires
unreachable-requires g c =
    let m = g.D.Device.machine c.args.device in
    let now = ap seen c.in-Ok.ensures.ok ∙ sees_stable m c.requires.up c.requires.idle in
    let charge = subst (λ o. c.in-Ok-left_over.taken.charge ≤ named_charge (heard o)) now c.in-Ok-left_over.ensures.charged in
    let chunks = subst (λ o. c.in-Ok-left_over.taken.chunks ≤ named_chunks (heard o)) now c.in-Ok-left_over.ensures.chunked in
    elim c.then-taken-keys.branch [
      | then-taken-keys-via-then-taken-keys w ↦ omega (arith, w.if-taken-keys.true, charge, c.requires.clear.room.charge, c.limits-keys.ensures.keys)
      | then-taken-keys-via-else-taken-keys+then-taken-pages w ↦ omega (arith, w.if-taken-pages.true, chunks, c.requires.clear.room.chunks, c.limits-keys.ensures.pages)
    ]

pub left_over-requires-clause-room : goal.left_over-requires-clause-room
left_over-requires-clause-room g c =
    let m = g.D.Device.machine c.args.device in
    let sound = g.met.D.Device.sound c.args.device in
    subst IsRoomy (sym c.in-Ok.ensures.ok) (room_of (opened m c.args.head).machine (seen (opened m c.args.head)) m.stable (sees_stable m c.requires.up c.requires.idle) sound.keys sound.pages)

pub returns-in-Err-left_over-clause-err : goal.returns-in-Err-left_over-clause-err
returns-in-Err-left_over-clause-err g c =
    let m = g.D.Device.machine c.args.device in
    let fault = c.in-Err-left_over.fault in
    let new = c.left_over.new.running.tx.machine in
    let fails = subst (λ (old : Tx). ClearFails old fault new) c.in-Ok.ensures.ok c.in-Err-left_over.ensures.err in
    let here = fails_clear m new fault c.requires.clear fails.cause fails.keeps (record { most_cuts = fails.bounds.most_cuts; most_faults = fails.bounds.most_faults; room_keys = fails.bounds.room_keys; room_pages = fails.bounds.room_pages }) in
    subst (λ (f : HostFault). NotMounted m f (g.D.Device.machine c.into_device.result)) (sym c.host_fault-in-Err-left_over.ensures)
    (subst (λ (x : Machine). NotMounted m (host_fault fault) x) (sym c.into_device.ensures.machine) here)
