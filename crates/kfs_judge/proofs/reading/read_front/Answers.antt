use Rattle.std.proofs.Common.{◌≡◌, ◌+◌, ◌*◌, ◌≤◌, [], ◌∷◌, List, ℕ, length, map, take, drop, ◌∙◌, ap, arith}
use Rattle.kv_device.specs.Machine.{view}
use Rattle.kv_device.specs.Objects.{pairs_from, pair_of}
use Rattle.kfs_judge.proofs.Gathering.{extends_by}
use Rattle.kfs_judge.proofs.FrontRead.{piece_rows, piece_length, last_piece, next_piece, few_pairs}
use Rattle.kfs_judge.proofs.reading.read_front.Goals as goal

pub returns-then-len-lt64-clause-rows : goal.returns-then-len-lt64-clause-rows
returns-then-len-lt64-clause-rows g c =
    let p = c.args.first ∷ [] in
    let m = view (g.D.Device.machine c.args.device.now) c.args.tx.0 in
    let all = pairs_from m p p in
    let a = 63 * c.loop-piece._piece in
    let inv = c.loop-piece.invariant in
    let known = inv.known in
    let found : map pair_of c.in_ok-pairs.pairs ≡ take 64 (drop a all) =
    c.in_ok-pairs.ensures.ok.found ∙ (λ i. take 64 (pairs_from (view (inv.same i) c.args.tx.0) c.loop-piece.from (c.in_ok-prefix.ensures i))) ∙ ap (take 64) inv.from in
    let short : length c.in_ok-pairs.pairs ≤ 63 = let l = c.len.ensures in let t = c.if-len-lt64.true in omega arith in
    last_piece all a c.in_ok-pairs.pairs c.args.rows.now.items c.add_rows.new.rows.items found (omega arith)
    (piece_rows all a c.loop-piece.known c.in_ok-pairs.pairs c.as_slice.result.now c.args.rows.now.items c.loop-piece.rows.items c.add_rows.new.rows.items (omega arith) c.as_slice.ensures found inv.rows c.in_ok-add_rows.ensures)

pub loop-piece-preserved : goal.loop-piece-preserved
loop-piece-preserved g c =
    let p = c.args.first ∷ [] in
    let m = view (g.D.Device.machine c.args.device.now) c.args.tx.0 in
    let all = pairs_from m p p in
    let a = 63 * c.loop-piece._piece in
    let inv = c.loop-piece.invariant in
    let known = inv.known in
    let found : map pair_of c.in_ok-pairs.pairs ≡ take 64 (drop a all) =
    c.in_ok-pairs.ensures.ok.found ∙ (λ i. take 64 (pairs_from (view (inv.same i) c.args.tx.0) c.loop-piece.from (c.in_ok-prefix.ensures i))) ∙ ap (take 64) inv.from in
    let full : 64 ≤ length c.in_ok-pairs.pairs = let l = c.len.ensures in let t = c.if-len-lt64.false in omega arith in
    let size = piece_length all a c.in_ok-pairs.pairs found in
    let later : a + 64 ≡ 63 * (c.loop-piece._piece + 1) + 1 = omega arith in
    let place : a + 63 ≡ 63 * (c.loop-piece._piece + 1) = omega arith in
    let first = inv.age in
    let then = c.in_ok-pairs.ensures.age in
    record {
      known = omega arith;
      rows = extends_by (take (a + 64) all) (take (63 * (c.loop-piece._piece + 1) + 1) all) c.args.rows.now.items c.add_rows.new.rows.items (ap (λ (n : ℕ). take n all) later)
          (piece_rows all a c.loop-piece.known c.in_ok-pairs.pairs c.as_slice.result.now c.args.rows.now.items c.loop-piece.rows.items c.add_rows.new.rows.items (omega arith) c.as_slice.ensures found inv.rows c.in_ok-add_rows.ensures);
      from = ap (λ (k : List ℕ). pairs_from m k p) c.in_ok-from-2.ensures ∙ next_piece m p a c.in_ok-pairs.pairs c.get.result.now found c.get.ensures ∙ ap (λ (n : ℕ). drop n all) place;
      short = omega arith;
      same = c.in_ok-pairs.ensures.ok.after ∙ inv.same;
      age = record { later = omega (arith, first.later, then.later); bounded = omega (arith, first.bounded, then.bounded) };
    }

pub unreachable-requires : goal.unreachable-requires
unreachable-requires g c =
    let p = c.args.first ∷ [] in
    let m = view (g.D.Device.machine c.args.device.now) c.args.tx.0 in
    let few = few_pairs m p p in
    let some = c.loop-piece.invariant.short in
    let most = c.requires.few in
    omega arith
