use Rattle.std.proofs.Common.{◌≡◌, ◌≤◌, ◌+◌, ◌^◌, ◌∙◌, ap, arith}
use Rattle.kv_device.specs.Machine.{restarted}
use Rattle.kfs_runner.specs.Numbers.{line_age}
use Rattle.kfs_runner.specs.MountPoints.{mount_state, point_machine, device_age}
use Rattle.kfs_runner.proofs.PointLaws.{point_keys}
use Rattle.kfs_runner.proofs.MountLaws.{mount_goes, mount_falls, wake_falls, kept_none}
use Rattle.kfs_runner.proofs.mount_point.MountPoint.mount.Goals as goal

pub returns-in-Ok-mount : goal.returns-in-Ok-mount
returns-in-Ok-mount g c =
    let point = mount_state g.S.Store.machine g.S.Store.age g.S.Store.rested c.args.self in
    let store = c.into_store.result in
    let m = g.S.Device.Device.machine c.in-Ok.device in
    let age = g.S.Device.Device.age c.in-Ok.device in
    let held = (g.met.S.Device.Device.sound c.in-Ok.device).held in
    let up : m ≡ restarted (point_machine point) = c.in-Ok.ensures.ok ∙ ap restarted c.into_store.ensures.machine in
    let woken : age ≤ device_age point + 2 ^ 20 = omega (arith, c.in-Ok.ensures.age, c.into_store.ensures.age) in
    let none = kept_none point (g.S.Store.machine store) (g.S.Store.rested store) c.into_store.ensures.kept c.in-Ok.ensures.taken in
    let new = c.in-Ok-mount.session in
    mount_goes point m new c.changes-changes.result age c.requires.known up held c.in-Ok-mount.ensures.clear c.in-Ok-mount.ensures.ok c.in-Ok-mount.ensures.begun c.in-Ok-mount.ensures.changes c.in-Ok-mount.ensures.next woken c.in-Ok.ensures.low c.in-Ok-mount.ensures.age c.changes-changes.ensures none

pub returns-in-Err-mount : goal.returns-in-Err-mount
returns-in-Err-mount g c =
    let point = mount_state g.S.Store.machine g.S.Store.age g.S.Store.rested c.args.self in
    let store = c.into_store.result in
    let m = g.S.Device.Device.machine c.in-Ok.device in
    let age = g.S.Device.Device.age c.in-Ok.device in
    let held = (g.met.S.Device.Device.sound c.in-Ok.device).held in
    let new = g.S.Device.Device.machine c.in-Err-mount.device in
    let up : m ≡ restarted (point_machine point) = c.in-Ok.ensures.ok ∙ ap restarted c.into_store.ensures.machine in
    let woken : age ≤ device_age point + 2 ^ 20 = omega (arith, c.in-Ok.ensures.age, c.into_store.ensures.age) in
    let none = kept_none point (g.S.Store.machine store) (g.S.Store.rested store) c.into_store.ensures.kept c.in-Ok.ensures.taken in
    let aged : g.S.Store.age c.rest.result ≤ device_age point + line_age = omega (arith, c.rest.ensures.age, c.in-Err-mount.ensures.age_left.bounded, woken) in
    mount_falls point m new (g.S.Store.machine c.rest.result) c.in-Err-mount.fault c.answer_to.result (g.S.Store.age c.rest.result) (g.S.Store.rested c.rest.result) c.requires.known up held c.in-Err-mount.ensures.err c.rest.ensures.machine aged c.rest.ensures.whole none c.answer_to.ensures

pub returns-in-Err : goal.returns-in-Err
returns-in-Err g c =
    let point = mount_state g.S.Store.machine g.S.Store.age g.S.Store.rested c.args.self in
    let store = c.into_store.result in
    let old = g.S.Store.machine store in
    let new = c.in-Err.store in
    let aged : g.S.Store.age new ≤ device_age point + line_age = omega (arith, c.in-Err.ensures.age_left, c.into_store.ensures.age) in
    wake_falls point old (g.S.Store.machine new) c.in-Err.fault c.answer_to-in-Err.result (g.S.Store.age store) (g.S.Store.age new) (g.S.Store.rested store) (g.S.Store.rested new) c.requires.known c.into_store.ensures.machine c.in-Err.ensures.err c.into_store.ensures.age aged c.into_store.ensures.kept c.in-Err.ensures.outside c.in-Err.ensures.whole c.in-Err.ensures.stays c.answer_to-in-Err.ensures
