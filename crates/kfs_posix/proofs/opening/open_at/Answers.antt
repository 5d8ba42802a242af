use Rattle.std.proofs.Common.{◌∙◌, ap, Some, None, Ok}
use Rattle.kfs_core.specs.Spot.{route_of, told_of}
use Rattle.kfs_posix.proofs.ResizeJudges.{still}
use Rattle.kfs_posix.proofs.OpenParts.{opened_by}
use Rattle.kfs_posix.proofs.opening.open_at.Goals as goal

pub returns-in-None-clause-does : goal.returns-in-None-clause-does
returns-in-None-clause-does g c =
    opened_by c.args.kfs.now c.find.new.self c.open_new.new.kfs c.args.files.now.opens c.open_new.new.files.opens c.args.flags (route_of c.args.path.now) None c.open_new.result (still c.args.kfs.now c.find.new.self c.in_ok-find.ensures.rest c.in_ok-find.ensures.leaves)
    (c.in_ok-find.ensures.gives ∙ ap (λ x. Ok (told_of x)) c.in-None.is) c.open_new.ensures.does

pub returns-in-Some-clause-does : goal.returns-in-Some-clause-does
returns-in-Some-clause-does g c =
    opened_by c.args.kfs.now c.find.new.self c.open_there.new.kfs c.args.files.now.opens c.open_there.new.files.opens c.args.flags (route_of c.args.path.now) (Some (c.in-Some.node, c.in-Some.inode.kind, c.in-Some.inode.length)) c.open_there.result
    (still c.args.kfs.now c.find.new.self c.in_ok-find.ensures.rest c.in_ok-find.ensures.leaves)
    (c.in_ok-find.ensures.gives ∙ ap (λ x. Ok (told_of x)) c.in-Some.is) c.open_there.ensures.does
