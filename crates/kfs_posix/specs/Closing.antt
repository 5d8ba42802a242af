-- Closing, over the objects and the open files.
use Rattle.std.specs.Prelude.{ℕ, ◌≡◌, ◌||◌, ◌⊎◌, Bool, true, false, Result, Ok, Err, Some, None}
use Rattle.kfs_path.specs.declared.call.Errno.TheVariants.{EBADF}
use Rattle.kfs_model.specs.Desk.{is_open}
use Rattle.kfs_tx.specs.Tx.{seen}
use Rattle.kfs_core.specs.declared.fault.CoreFault.{CoreFault}
use Rattle.kfs_core.specs.declared.fault.CoreFault.TheVariants.{No}
use Rattle.kfs_core.specs.Core.{KfsState, tx_in, Same}
use Rattle.kfs_core.specs.Flat.{inode_in}
use Rattle.kfs_core.specs.Removing.{release_at, Released, ReleaseFails}
use Rattle.kfs_posix.specs.declared.open_files.OpenFile.{OpenFile}
use Rattle.kfs_posix.specs.Opens.{Opens, open_at, desk_of, closed}

-- whether a node stays that was closed: it has a name, or is open still
abbrev pub remains : Opens → OpenFile → Bool
remains o file = file.named || is_open (desk_of o) file.it.node

-- a node that stays leaves all as it was, another is released
abbrev pub Closes : KfsState → OpenFile → Bool → KfsState → Type 0
Closes old file true new = Same old new
Closes old file false new = Released old file.it.node (release_at (inode_in (seen (tx_in old)) file.it.node)) new

-- a descriptor was closed
pub record Closed (old : KfsState) (o : Opens) (fd : ℕ) (new : KfsState) (files : Opens) : Type 0 where
  pub it : ℕ × OpenFile
  pub at : open_at o fd ≡ Some it
  pub files_are : files ≡ closed o fd it.0
  pub closes : Closes old it.1 (remains (closed o fd it.0) it.1) new

-- the release failed
pub record NotReleased (old : KfsState) (o : Opens) (fd : ℕ) (fault : CoreFault) (new : KfsState) (files : Opens) : Type 0 where
  pub it : ℕ × OpenFile
  pub at : open_at o fd ≡ Some it
  pub files_are : files ≡ closed o fd it.0
  pub goes : remains (closed o fd it.0) it.1 ≡ false
  pub fails : ReleaseFails old it.1.it.node (release_at (inode_in (seen (tx_in old)) it.1.it.node)) fault new

-- no descriptor was open
pub record NotOpen (old : KfsState) (o : Opens) (fd : ℕ) (fault : CoreFault) (new : KfsState) (files : Opens) : Type 0 where
  pub at : open_at o fd ≡ None
  pub errno : fault ≡ No EBADF
  pub same : Same old new
  pub files_are : files ≡ o

-- what closing did
abbrev pub CloseDoes : {X : Type 0} → KfsState → Opens → ℕ → Result X CoreFault → KfsState → Opens → Type 0
CloseDoes old o fd (Ok x) new files = Closed old o fd new files
CloseDoes old o fd (Err fault) new files = NotOpen old o fd fault new files ⊎ NotReleased old o fd fault new files
