-- What the calls of files answer over the objects is what the tree's definitions say.
use Rattle.std.proofs.Common.{◌≡◌, ℕ, ◌<◌, ◌≤◌, ◌^◌, ◌==◌, true, false, Bool, refl, sym, ◌∙◌, ap, subst, arith, List, length, Option, Some, None, Result, Ok, Err, nat_lt, nat_le}
use Rattle.std.specs.Option.{option_map, option_and_then}
use Rattle.std.specs.FinMap as objects
use Rattle.std.proofs.lemmas.Bool.Decides.{nat_tests}
use Rattle.kv_device.specs.Objects.{Objects}
use Rattle.kfs_objects.specs.Keys.{chunk_key}
use Rattle.kfs_objects.specs.Records.{read_inode}
use Rattle.kfs_path.specs.declared.call.Errno.{Errno}
use Rattle.kfs_path.specs.declared.call.Errno.TheVariants.{ENOENT, EISDIR, EFBIG, ENOSPC}
use Rattle.kfs_model.specs.declared.Node.{Node}
use Rattle.kfs_model.specs.declared.Node.TheVariants.{Dir, File}
use Rattle.kfs_model.specs.Ladder.{◌>>=◌, ◌>>◌, ◌when◌}
use Rattle.kfs_model.specs.Tree.{Tree, Limits, charge, chunks, fits, greatest_length, node_of}
use Rattle.kfs_model.specs.Step.{content, piece_at}
use Rattle.kfs_shows.specs.Shows.{ShowsChunk}
use Rattle.kfs_file.specs.Contents.{HoldsFile}
use Rattle.kfs_core.specs.declared.fault.CoreFault.TheVariants.{No}
use Rattle.kfs_core.specs.declared.room.Space.{Space}
use Rattle.kfs_core.specs.Stands.{Stands}
use Rattle.kfs_core.specs.Flat.{inode_in}
use Rattle.kfs_core.specs.Files.{file_at, Reads, write_in}
use Rattle.kfs_core.specs.Room.{fits_in}
use Rattle.kfs_core.proofs.Fitting.{IsSpaceOf, fits_same}
use Rattle.kfs_core.proofs.Ways.{inode_at}

-- the length of a node that is a file, or why it has none
abbrev pub file_of : Option Node → Result ℕ Errno
file_of None = Err ENOENT
file_of (Some Dir) = Err EISDIR
file_of (Some (File bytes)) = Ok (length bytes)

-- whatever follows two tests, it is answered alike
pub both_answer : {X : Type 0} (a b : Bool) (size : ℕ) (x : X) → ((EFBIG when a) >> ((ENOSPC when b) >> Ok x)) ≡ (((EFBIG when a) >> ((ENOSPC when b) >> Ok size)) >>= λ _. Ok x)
both_answer true b size x = refl
both_answer false true size x = refl
both_answer false false size x = refl

module _ (m : Objects) (t : Tree) (stands : Stands m t) where
  pub node_low : (n : ℕ) (x : Node) → node_of t n ≡ Some x → n < 2 ^ 64
  node_low n x e = let h = (stands.tree.numbers n x e).1 in let l = stands.low in omega arith

  pub file_same : (n : ℕ) → n < 2 ^ 64 → file_at (inode_in m n) ≡ file_of (node_of t n)
  file_same n lt = by (node_of t n) refl
    where
      short : (bytes : List ℕ) → length bytes ≤ greatest_length → nat_lt greatest_length (length bytes) ≡ false
      short bytes le = grind (arith, nat_tests)

      by : (o : Option Node) → node_of t n ≡ o → file_at (inode_in m n) ≡ file_of o
      by None e = ap (λ o. file_at (option_and_then read_inode o)) (stands.shows.inodes n lt ∙ ap (option_map _) e)
      by (Some Dir) e = ap file_at (inode_at m t stands n Dir e)
      by (Some (File bytes)) e =
          ap file_at (inode_at m t stands n (File bytes) e) ∙ ap (λ b. (EFBIG when b) >> Ok (length bytes)) (short bytes (stands.tree.lengths n bytes e))

  pub holds_file : (n : ℕ) (bytes : List ℕ) → node_of t n ≡ Some (File bytes) → HoldsFile m n bytes
  holds_file n bytes e = record { pieces = λ c lt. subst (λ o. ShowsChunk (objects.get m (chunk_key n c)) o c) e (stands.shows.chunks n c (node_low n (File bytes) e) lt) }

  module _ (n : ℕ) (bytes : List ℕ) (file : node_of t n ≡ Some (File bytes)) where
    pub file_there : file_at (inode_in m n) ≡ Ok (length bytes)
    file_there = file_same n (node_low n (File bytes) file) ∙ ap file_of file

    pub content_is : content t n ≡ bytes
    content_is = rw file refl

    -- a read gives the piece
    pub reads_piece : (offset count : ℕ) (text : List ℕ) → Reads m n offset count (Ok text) → text ≡ piece_at bytes offset count
    reads_piece offset count text h = let same : Ok (length bytes) ≡ Ok h.0 = sym file_there ∙ h.1 in h.2 bytes (cc) (holds_file n bytes file)

    -- and is never refused
    pub reads_always : (offset count : ℕ) (e : Errno) → Reads m n offset count (Err (No e)) → ⊥
    reads_always offset count e h = let bad : Ok (length bytes) ≡ Err e = sym file_there ∙ h in cc

    -- a write is judged as the definition judges it
    pub write_same : (k : Limits) (space : Space) (offset count : ℕ) → IsSpaceOf space k t → charge t ≤ k.keys → chunks t ≤ k.pages
        → write_in m space n offset count ≡ ((EFBIG when nat_le greatest_length offset) >> ((ENOSPC when (fits k t n bytes offset count == 0)) >> Ok (length bytes)))
    write_same k space offset count is keys pages =
        ap (λ r. r >>= λ size. (EFBIG when nat_le greatest_length offset) >> ((ENOSPC when (fits_in space size offset count == 0)) >> Ok size)) file_there
        ∙ ap (λ j. (EFBIG when nat_le greatest_length offset) >> ((ENOSPC when (j == 0)) >> Ok (length bytes))) (fits_same k t n bytes stands.tree.sorted_nodes file keys pages space offset count is)

    -- so its answer is the definition's, whatever is answered
    pub write_answers : {X : Type 0} (x : X) (k : Limits) (space : Space) (offset count : ℕ) → IsSpaceOf space k t → charge t ≤ k.keys → chunks t ≤ k.pages
        → ((EFBIG when nat_le greatest_length offset) >> ((ENOSPC when (fits k t n bytes offset count == 0)) >> Ok x)) ≡ (write_in m space n offset count >>= λ _. Ok x)
    write_answers x k space offset count is keys pages =
        both_answer (nat_le greatest_length offset) (fits k t n bytes offset count == 0) (length bytes) x ∙ ap (λ r. r >>= λ _. Ok x) (sym (write_same k space offset count is keys pages))

    -- the length that the code found
    pub write_size : (space : Space) (offset count size : ℕ) → write_in m space n offset count ≡ Ok size → size ≡ length bytes
    write_size space offset count size e =
        by (nat_le greatest_length offset) (fits_in space (length bytes) offset count == 0)
        (sym (ap (λ r. r >>= λ size. (EFBIG when nat_le greatest_length offset) >> ((ENOSPC when (fits_in space size offset count == 0)) >> Ok size)) file_there) ∙ e)
      where
        by : (a b : Bool) → ((EFBIG when a) >> ((ENOSPC when b) >> Ok (length bytes))) ≡ Ok size → size ≡ length bytes
        by true b e = absurd (cc)
        by false true e = absurd (cc)
        by false false e = cc
