use Rattle.std.proofs.Common.{◌≡◌, ◌+◌, ◌*◌, ◌≤◌, [], ◌∷◌, length, take, drop}
use Rattle.kv_device.specs.Machine.{view}
use Rattle.kv_device.specs.Objects.{pairs_from}
use Rattle.kv_device.specs.Calls.{Ages}
use Rattle.kfs_judge.specs.Rows.{Extends}
use Rattle.kfs_judge.proofs.reading.read_front.Given as goal

-- each piece but the first begins with an object that is known
abbrev pub invariant-loop-piece : goal.invariant-loop-piece
invariant-loop-piece g l =
    let m = view (g.D.Device.machine l.fn.device) l.fn.tx.0 in
    let all = pairs_from m (l.fn.first ∷ []) (l.fn.first ∷ []) in
    record {
      known : l.known ≤ 1;
      rows : Extends (take (63 * l._piece + l.known) all) l.fn.rows.items l.rows.items;
      from : pairs_from m l.from (l.fn.first ∷ []) ≡ drop (63 * l._piece) all;
      short : 63 * l._piece + l.known ≤ length all;
      same : g.D.Device.machine l.device ≡ g.D.Device.machine l.fn.device;
      age : Ages (g.D.Device.age l.fn.device) (g.D.Device.age l.device) 0;
    }
