use Rattle.std.proofs.Common.{◌≡◌, inr, ℕ, List, ap, subst, sym, ◌∙◌, Ok, Err, Result, w64}
use Rattle.std.proofs.lemmas.Int.{to_z-of_z}
use Rattle.kfs_path.specs.declared.call.Errno.{Errno}
use Rattle.kfs_core.specs.declared.fault.CoreFault.{CoreFault}
use Rattle.kfs_core.specs.Core.{KfsState}
use Rattle.kfs_model.specs.Step.{natural}
use Rattle.kfs_posix.specs.declared.open_files.OpenFile.{OpenFile}
use Rattle.kfs_posix.specs.Opens.{Opens}
use Rattle.kfs_posix.specs.Writing.{PutDoes, PwriteDoes, writable_at}
use Rattle.kfs_posix.proofs.writing.pwrite.Goals as goal

put_is : (k : KfsState) (o : Opens) (judged : Result (ℕ × OpenFile) Errno) (it : ℕ × OpenFile) (place : ℕ) (bytes : List ℕ) (result : Result ℕ CoreFault) (new : KfsState) (files : Opens)
    → judged ≡ Ok it → PutDoes k o it.1 place bytes result new files → PwriteDoes k o judged place bytes result new files
put_is k o judged it place bytes (Ok n) new files is does = (it, is, does)
put_is k o judged it place bytes (Err fault) new files is does = inr (it, is, does)

pub returns-in-Ok-clause-does : goal.returns-in-Ok-clause-does
returns-in-Ok-clause-does g c =
    let o = c.args.files.now.opens in
    put_is c.args.kfs.now o (writable_at o c.args.fd c.args.offset) (c.in-Ok.field-0-0, c.in-Ok.file) (natural c.args.offset) c.args.bytes.now c.put.result c.put.new.kfs c.put.new.files.opens (sym (c.in-Ok.ensures ∙ ap (writable_at o c.args.fd) (to_z-of_z w64 c.args.offset c.ranges.offset)))
    (subst (λ p. PutDoes c.args.kfs.now o c.in-Ok.file p c.args.bytes.now c.put.result c.put.new.kfs c.put.new.files.opens) (c.place.ensures ∙ ap natural (to_z-of_z w64 c.args.offset c.ranges.offset)) c.put.ensures.does)
