use Rattle.std.proofs.Common.{◌≡◌, ◌≤◌, ◌<◌, ◌-◌, ◌+◌, ◌∙◌, length, subst, sym, ap, refl, arith, List, ℕ}
use Rattle.kfs_runner.specs.Outside.{Gives}
use Rattle.kfs_runner.proofs.Streams.{Gives-nothing, Gives-all, Gives-more, gives_too_much, appended, length_appended}
use Rattle.kfs_runner.proofs.reading.read_to_end.Goals as goal

pub loop-piece-init : goal.loop-piece-init
loop-piece-init g c =
    let P : List ℕ → Type 0 = λ text. Gives (g.S.Source.side c.args.source.now).bytes text (g.S.Source.side c.args.source.now).bytes in
    let short : length c.in_ok-text.text ≡ 0 = ap length c.in_ok-text.ensures in
    record {
      given = subst P (sym c.in_ok-text.ensures) (Gives-nothing (g.S.Source.side c.args.source.now).bytes);
      limit = omega arith;
      steady = refl;
      size = omega arith;
    }

pub returns-then-n-eq0-clause-whole : goal.returns-then-n-eq0-clause-whole
returns-then-n-eq0-clause-whole g c =
    Gives-all _ _ _ c.read.new.into _ c.in_ok-n.n c.loop-piece.invariant.given c.in_ok-n.ensures.moved (c.in_ok-n.ensures.end c.if-n-eq0.true (omega (arith, c.as_mut_slice.ensures.len))) c.if-n-eq0.true

pub returns-then-n-bytes-clause-stops : goal.returns-then-n-bytes-clause-stops
returns-then-n-bytes-clause-stops g c =
    let within : c.in_ok-n.n ≤ length c.read.new.into = omega (arith, c.in_ok-n.ensures.within) in
    let same : length c.bytes.result.now ≡ length c.loop-piece.text = ap length c.bytes.ensures in
    let long : 16777216 - length c.loop-piece.text < c.in_ok-n.n = omega arith in
    (gives_too_much _ c.loop-piece.text _ c.read.new.into _ c.in_ok-n.n c.loop-piece.invariant.given c.in_ok-n.ensures.moved c.loop-piece.invariant.limit within long, c.in_ok-n.ensures.steady ∙ c.loop-piece.invariant.steady)

pub loop-piece-smaller : goal.loop-piece-smaller
loop-piece-smaller g c =
    let size : length c.read.new.into ≡ c.loop-piece.piece.len = omega (arith, c.read.auto.into, c.as_mut_slice.ensures.len) in
    let is = appended c.append.new.self c.loop-piece.text c.deref.result.now c.read.new.into c.loop-piece.piece.items c.in_ok-n.n c.loop-piece.piece.len c.in_ok-append.ensures.ok c.deref.ensures.value size in
    let within : c.in_ok-n.n ≤ length c.read.new.into = omega (arith, c.in_ok-n.ensures.within) in
    let more : length c.append.new.self ≡ length c.loop-piece.text + c.in_ok-n.n = length_appended _ _ _ _ is within in
    let same : length c.bytes.result.now ≡ length c.loop-piece.text = ap length c.bytes.ensures in
    let smaller : 16777216 - length c.append.new.self < 16777216 - length c.loop-piece.text = omega arith in
    smaller

pub loop-piece-preserved : goal.loop-piece-preserved
loop-piece-preserved g c =
    let size : length c.read.new.into ≡ c.loop-piece.piece.len = omega (arith, c.read.auto.into, c.as_mut_slice.ensures.len) in
    let is = appended c.append.new.self c.loop-piece.text c.deref.result.now c.read.new.into c.loop-piece.piece.items c.in_ok-n.n c.loop-piece.piece.len c.in_ok-append.ensures.ok c.deref.ensures.value size in
    let within : c.in_ok-n.n ≤ length c.read.new.into = omega (arith, c.in_ok-n.ensures.within) in
    let more : length c.append.new.self ≡ length c.loop-piece.text + c.in_ok-n.n = length_appended _ _ _ _ is within in
    let same : length c.bytes.result.now ≡ length c.loop-piece.text = ap length c.bytes.ensures in
    let P : List ℕ → Type 0 = λ text. Gives (g.S.Source.side c.args.source.now).bytes text (g.S.Source.side c.read.new.self).bytes in
    record {
      given = subst P (sym is) (Gives-more _ _ _ _ _ c.loop-piece.invariant.given c.in_ok-n.ensures.moved);
      limit = omega arith;
      steady = c.in_ok-n.ensures.steady ∙ c.loop-piece.invariant.steady;
      size = omega (arith, c.read.auto.into, c.as_mut_slice.ensures.len);
    }
