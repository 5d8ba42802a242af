use Rattle.std.proofs.Common.{◌≡◌, ℕ, ◌||◌, true, false, not, refl, sym, ◌∙◌, ap, Some, None, Ok}
use Rattle.std.specs.Ordering.{nat_cmp}
use Rattle.std.specs.FinMap.{find}
use Rattle.kv_device.specs.Objects.{Objects}
use Rattle.kfs_path.specs.declared.call.Errno.TheVariants.{ENOENT, EMFILE}
use Rattle.kfs_path.specs.declared.call.Flags.{Flags}
use Rattle.kfs_model.specs.Ladder.{◌>>=◌, ◌>>◌, ◌when◌}
use Rattle.kfs_model.specs.Desk.{lowest_free}
use Rattle.kfs_model.specs.Step.{Route, or_else}
use Rattle.kfs_tx.specs.Tx.{seen}
use Rattle.kfs_core.specs.declared.room.Space.{Space}
use Rattle.kfs_core.specs.Core.{tx_in}
use Rattle.kfs_core.specs.Room.{space_in}
use Rattle.kfs_core.specs.Flat.{Where, create_at}
use Rattle.kfs_core.specs.Spot.{route_of}
use Rattle.kfs_posix.specs.declared.open_files.OpenFile.{OpenFile}
use Rattle.kfs_posix.specs.Opens.{Opens, desk_of, opened_as}
use Rattle.kfs_posix.specs.Opening.{New, open_new_in, opened_file, OpensAs}
use Rattle.kfs_posix.proofs.opening.open_new.Goals as goal

judged : (m : Objects) (space : Space) (o : Opens) (route : Route) (flags : Flags) (w : Where) (fd : ℕ) → not flags.creat ≡ false → route.trailing ≡ false → Some fd ≡ lowest_free (desk_of o) → create_at m space.keys space.charge route ≡ Ok w → open_new_in m space o route flags ≡ Ok (New w fd)
judged m space o route flags w fd a b low made =
    (λ i. (ENOENT when (a i || b i)) >> (or_else (sym low i) EMFILE >>= λ fd. create_at m space.keys space.charge route >>= λ w. Ok (New w fd))) ∙ ap (λ r. r >>= λ w. Ok (New w fd)) made

new_opened : (o mid new : Opens) (fd d : ℕ) (file was : OpenFile) → mid ≡ o → find nat_cmp d mid.files ≡ None → new ≡ opened_as mid fd d file → file ≡ was → OpensAs o fd was new
new_opened o mid new fd d file was same free is f = record { number = d; free = ap (λ (x : Opens). find nat_cmp d x.files) (sym same) ∙ free; is = is ∙ (λ i. opened_as (same i) fd d (f i)) }

pub returns-clause-does : goal.returns-clause-does
returns-clause-does g c =
    let o = c.args.files.now.opens in
    let does = c.in_ok-node.ensures.does in
    let fd = c.in-Some.fd in (
      New does.0 fd,
      judged (seen (tx_in c.args.kfs.now)) (space_in c.args.kfs.now) o (route_of c.args.path.now) c.args.flags does.0 fd c.if-not-flags.false c.if-path.false c.in-Some.ensures.lowest does.1,
      (
        refl,
        does.2,
        c.in_ok-node.ensures.charge,
        c.in_ok-node.ensures.chunks,
        new_opened o c.reserve.new.self.opens c.open.new.self.opens fd c.open.result c.opened_file.result (opened_file (tx_in c.args.kfs.now).next true 0 c.args.flags) c.in_ok-reserve.ensures.same c.open.ensures.free c.open.ensures.opened
            (c.opened_file.ensures ∙ ap (λ n. opened_file n true 0 c.args.flags) c.in_ok-node.ensures.node),
      ),
    )
