use Rattle.std.proofs.Common.{◌≡◌, ◌≢◌, ℕ, ◌==◌, false, cond, ap, subst, sym, ◌∙◌, Ok, arith}
use Rattle.std.proofs.lemmas.Bool.Decides.{nat_tests}
use Rattle.kfs_posix.specs.Opens.{moved_to}
use Rattle.kfs_posix.specs.Writing.{PutDoes, behind, place_of}
use Rattle.kfs_posix.proofs.writing.write.Goals as goal

some_test : (n : ℕ) → n ≢ 0 → (n == 0) ≡ false
some_test n apart = grind (arith, nat_tests)

pub returns-else-some-eq0-clause-does : goal.returns-else-some-eq0-clause-does
returns-else-some-eq0-clause-does g c =
    let mid = c.put.new.files.opens in
    let some = c.in_ok-some-in-Ok.some in
    let place = c.place_of-place.ensures in (
      (c.in-Ok.number, c.in-Ok.file),
      sym c.in-Ok.ensures,
      mid,
      subst (λ p. PutDoes c.args.kfs.now c.args.files.now.opens c.in-Ok.file p c.args.bytes.now (Ok some) c.put.new.kfs mid) place c.in_ok-some-in-Ok.ensures.does,
      c.move_to.ensures ∙ ap (moved_to mid c.in-Ok.number) (c.behind.ensures ∙ ap (λ p. behind p some) place)
          ∙ sym (ap (λ b. cond b mid (moved_to mid c.in-Ok.number (behind (place_of c.in-Ok.file) some))) (some_test some c.if-some-eq0.false)),
    )
