use Rattle.std.proofs.Common.{sym, ◌∙◌, arith, subst, false}
use Rattle.kv_device.specs.declared.fault.DeviceFault.TheVariants.{Memory}
use Rattle.kv_device.specs.MapDevice.{machine_of}
use Rattle.kv_device.specs.Calls.{IsFault, FallsReading}
use Rattle.kv_device.proofs.SlotLaws.{changes-read, is_tx_full-is, delete_allowed, with_change-is}
use Rattle.kv_device.proofs.map_device.MapDevice.change.Goals as goal

pub returns-in-Ok-clause-ok : goal.returns-in-Ok-clause-ok
returns-in-Ok-clause-ok c =
    let s = c.args.self.now in
    let now = changes-read s.pending c.args.tx.0 c.index-self-number.result c.in-Some.slot (omega arith) c.index-self-number.is (c.index-self-number.is ∙ c.in-Some.is) in
    let full = is_tx_full-is (machine_of s) c.args.tx.0 c.args.key.now _ _ false now c.change_total-total.ensures c.if-is_full.ensures in (
      delete_allowed (machine_of s) c.args.tx.0 c.args.key.now _ c.if-not-self.false now full,
      with_change-is (machine_of s) s.pending c.args.tx.0 c.args.key.now _ _ c.put.new.self (λ i. (machine_of s).pending) now c.in-Ok.ensures.ok,
    )

pub returns-in-Err-clause-err : goal.returns-in-Err-clause-err
returns-in-Err-clause-err c =
    let s = c.args.self.now in
    let now = changes-read s.pending c.args.tx.0 c.index-self-number.result c.in-Some.slot (omega arith) c.index-self-number.is (c.index-self-number.is ∙ c.in-Some.is) in
    let full = is_tx_full-is (machine_of s) c.args.tx.0 c.args.key.now _ _ false now c.change_total-total.ensures c.if-is_full.ensures in
    rw c.from.ensures (subst (λ r. IsFault r FallsReading (machine_of s) Memory (machine_of c.fall.new.self)) (sym (delete_allowed (machine_of s) c.args.tx.0 c.args.key.now _ c.if-not-self.false now full)) c.fall.ensures.machine)
