-- Reading from a descriptor as an event of a life.
use Rattle.std.proofs.Common.{◌≡◌, ℕ, ◌<◌, ◌≤◌, ◌+◌, ◌-◌, ◌^◌, true, false, not, min, Bool, refl, sym, ◌∙◌, ap, subst, arith, List, length, drop, Option, Some, None, Result, Ok, Err, nat_lt, ℤ}
use Rattle.std.specs.Option.{option_map}
use Rattle.std.proofs.lemmas.List.{length-take, length-drop}
use Rattle.kfs_path.specs.declared.call.Call.{Call}
use Rattle.kfs_path.specs.declared.call.Call.TheVariants as calls
use Rattle.kfs_path.specs.declared.call.Errno.{Errno}
use Rattle.kfs_path.specs.declared.call.Errno.TheVariants.{EBADF, EISDIR, EINVAL}
use Rattle.kfs_path.specs.declared.call.Reply.{Reply}
use Rattle.kfs_path.specs.declared.call.Reply.TheVariants as replies
use Rattle.kfs_model.specs.declared.Description.{Description}
use Rattle.kfs_model.specs.declared.Node.{Node}
use Rattle.kfs_model.specs.declared.Node.TheVariants.{Dir, File}
use Rattle.kfs_model.specs.declared.Line.TheVariants as lines
use Rattle.kfs_model.specs.declared.Answer.TheVariants as answers
use Rattle.kfs_model.specs.Ladder.{◌>>=◌, ◌>>◌, ◌when◌}
use Rattle.kfs_model.specs.Tree.{Tree, node_of, greatest_length}
use Rattle.kfs_model.specs.Desk.{with_description}
use Rattle.kfs_model.specs.Step.{World, After, settled, step, or_else, readable, is_open_dir, piece_at, content, with_desk, with_offset, is_negative, natural, greatest_count, answers as answered_by}
use Rattle.kfs_model.specs.Life.{Live}
use Rattle.kfs_tx.specs.Tx.{seen}
use Rattle.kfs_core.specs.Files.{Reads}
use Rattle.kfs_core.specs.declared.fault.CoreFault.TheVariants.{No}
use Rattle.kfs_core.proofs.FileJudges.{content_is, reads_piece, reads_always}
use Rattle.kfs_posix.specs.declared.open_files.OpenFile.{OpenFile}
use Rattle.kfs_posix.specs.Opens.{Opens, open_at, desk_of, with_file}
use Rattle.kfs_posix.specs.Holding.{Holds, Knows, is_file}
use Rattle.kfs_posix.specs.Turning.{at_offset}
use Rattle.kfs_posix.specs.Reading.{readable_in, readable_at}
use Rattle.kfs_posix.specs.Volume.{Volume, limits_of}
use Rattle.kfs_posix.specs.Showing.{ShowsLive, GoesOn}
use Rattle.kfs_posix.proofs.Held.{world_in, described, opened_same, file_is, with_file_desk, file_holds, moved_knows}
use Rattle.kfs_posix.proofs.Going.{spare, spare_free, idle_goes, turn_goes, up_goes}
use Rattle.kfs_posix.proofs.Calls.{stands_of}

-- ---- the judge

dir_known : (t : Tree) (f : OpenFile) → Knows t f → is_open_dir t f.it.node ≡ not f.file
dir_known t f knows = by knows.node knows.there knows.kind
  where
    by : (node : Node) → node_of t f.it.node ≡ Some node → f.file ≡ is_file node → is_open_dir t f.it.node ≡ not f.file
    by Dir at kind = rw at (sym (ap not kind))
    by (File bytes) at kind = rw at (sym (ap not kind))

abbrev tests : Bool → Bool → Bool → ℕ × Description → Result (ℕ × Description) Errno
tests a b c it = (EBADF when a) >> ((EISDIR when b) >> ((EINVAL when c) >> Ok it))

abbrev tests_in : Bool → Bool → Bool → ℕ × OpenFile → Result (ℕ × OpenFile) Errno
tests_in a b c it = (EBADF when a) >> ((EISDIR when b) >> ((EINVAL when c) >> Ok it))

-- what a result says of a description
abbrev pub as_described : Result (ℕ × OpenFile) Errno → Result (ℕ × Description) Errno
as_described (Ok it) = Ok (described it)
as_described (Err e) = Err e

-- judged first, and then by a place
pub parted : {X : Type 0} (r : Result X Errno) (b : Bool) (x : X) → (r >>= λ it. (EINVAL when b) >> Ok it) ≡ Ok x → (r ≡ Ok x) × (b ≡ false)
parted (Err f) b x e = absurd (cc)
parted (Ok y) true x e = absurd (cc)
parted (Ok y) false x e = (e, refl)

pub refused_at : (w : World) (r : Result (ℕ × OpenFile) Errno) (b : Bool) (does : ℕ × Description → Result After Errno) (e : Errno) → (r >>= λ it. (EINVAL when b) >> Ok it) ≡ Err e
    → settled w (as_described r >>= λ it. (EINVAL when b) >> does it) ≡ record { world = w; reply = replies.Err e }
refused_at w (Err f) b does e is = let same : f ≡ e = cc in ap (λ x. record { world = w; reply = replies.Err x }) same
refused_at w (Ok x) true does e is = let same : EINVAL ≡ e = cc in ap (λ x. record { world = w; reply = replies.Err x }) same
refused_at w (Ok x) false does e is = absurd (cc)

pub readable_same : (t : Tree) (o : Opens) (fd count : ℕ) → Holds o t → readable (world_in t o) fd count ≡ as_described (readable_in o fd count)
readable_same t o fd count holds =
    ap (λ x. or_else x EBADF >>= λ it. tests (not it.1.read) (is_open_dir t it.1.node) (nat_lt greatest_count count) it) (opened_same o fd) ∙ by (open_at o fd) refl
  where
    last : (it : ℕ × OpenFile) (a b c : Bool) → tests a b c (described it) ≡ as_described (tests_in a b c it)
    last it true b c = refl
    last it false true c = refl
    last it false false true = refl
    last it false false false = refl

    by : (x : Option (ℕ × OpenFile)) → open_at o fd ≡ x
        → (or_else (option_map described x) EBADF >>= λ it. tests (not it.1.read) (is_open_dir t it.1.node) (nat_lt greatest_count count) it) ≡ as_described (or_else x EBADF >>= λ it. tests_in (not it.1.it.read) (not it.1.file) (nat_lt greatest_count count) it)
    by None e = refl
    by (Some it) e = ap (λ b. tests (not it.1.it.read) b (nat_lt greatest_count count) (described it)) (dir_known t it.1 (holds.known it.0 it.1 (file_is o fd it e))) ∙ last it (not it.1.it.read) (not it.1.file) (nat_lt greatest_count count)

-- what may be read is open, and a file
pub readable_is : (o : Opens) (fd count : ℕ) (it : ℕ × OpenFile) → readable_in o fd count ≡ Ok it → (open_at o fd ≡ Some it) × (it.1.file ≡ true)
readable_is o fd count it e = by (open_at o fd) refl e
  where
    last : (x it : ℕ × OpenFile) (a b c : Bool) → not x.1.file ≡ b → open_at o fd ≡ Some x → tests_in a b c x ≡ Ok it → (open_at o fd ≡ Some it) × (it.1.file ≡ true)
    last x it true b c f at e = absurd (cc)
    last x it false true c f at e = absurd (cc)
    last x it false false true f at e = absurd (cc)
    last x it false false false f at e = let same : x ≡ it = cc in (at ∙ ap Some same, ap (λ (q : ℕ × OpenFile). q.1.file) (sym same) ∙ not_false x.1.file f)
      where
        not_false : (b : Bool) → not b ≡ false → b ≡ true
        not_false true e = refl
        not_false false e = absurd (cc)

    by : (x : Option (ℕ × OpenFile)) → open_at o fd ≡ x → (or_else x EBADF >>= λ it. tests_in (not it.1.it.read) (not it.1.file) (nat_lt greatest_count count) it) ≡ Ok it → (open_at o fd ≡ Some it) × (it.1.file ≡ true)
    by None at e = absurd (cc)
    by (Some x) at e = last x it (not x.1.it.read) (not x.1.file) (nat_lt greatest_count count) refl at e

-- the bytes of a file that is open
pub file_bytes : (t : Tree) (f : OpenFile) → Knows t f → f.file ≡ true → (bytes : List ℕ) × (node_of t f.it.node ≡ Some (File bytes))
file_bytes t f knows file = by knows.node knows.there (sym knows.kind ∙ file)
  where
    by : (node : Node) → node_of t f.it.node ≡ Some node → is_file node ≡ true → (bytes : List ℕ) × (node_of t f.it.node ≡ Some (File bytes))
    by Dir at e = absurd (cc)
    by (File bytes) at e = (bytes, at)

-- ---- what is read

-- an offset behind what was read is low
behind : (bytes : List ℕ) (offset count : ℕ) → length bytes ≤ greatest_length → offset < 2 ^ 64 → offset + length (piece_at bytes offset count) < 2 ^ 64
behind bytes offset count short low = let a = length-take count (drop offset bytes) in let b = length-drop offset bytes in omega arith

module _ (old : Volume) (fd count : ℕ) where
  abbrev o : Opens
  o = old.files

  -- a file from which is read, in the tree that is shown
  pub record IsRead (live : Live) (it : ℕ × OpenFile) (place : ℕ) (text : List ℕ) : Type 0 where
    pub at : open_at o fd ≡ Some it
    pub knows : Knows live.world.tree it.1
    pub piece : piece_at (content live.world.tree it.1.it.node) place count ≡ text
    pub low : place < 2 ^ 64 → place + length text < 2 ^ 64

  pub reading : (it : ℕ × OpenFile) (place : ℕ) (text : List ℕ) → readable_in o fd count ≡ Ok it → Reads (seen old.tx) it.1.it.node place count (Ok text) → (live : Live) → ShowsLive old live → IsRead live it place text
  reading it place text judged reads live sh =
      let t = live.world.tree in
      let stands = stands_of old live sh in
      let is = readable_is o fd count it judged in
      let knows = sh.holds.known it.0 it.1 (file_is o fd it is.0) in
      let file = file_bytes t it.1 knows is.1 in
      let text_is = reads_piece (seen old.tx) t stands it.1.it.node file.0 file.1 place count text reads in
      record {
        at = is.0;
        knows = knows;
        piece = ap (λ b. piece_at b place count) (content_is (seen old.tx) t stands it.1.it.node file.0 file.1) ∙ sym text_is;
        low = λ low. subst (λ x. place + length x < 2 ^ 64) (sym text_is) (behind file.0 place count (sh.tree.lengths it.1.it.node file.0 file.1) low);
      }

  never : (it : ℕ × OpenFile) (place : ℕ) (e : Errno) → readable_in o fd count ≡ Ok it → Reads (seen old.tx) it.1.it.node place count (Err (No e)) → (live : Live) → ShowsLive old live → ⊥
  never it place e judged reads live sh =
      let t = live.world.tree in
      let is = readable_is o fd count it judged in
      let file = file_bytes t it.1 (sh.holds.known it.0 it.1 (file_is o fd it is.0)) is.1 in
      reads_always (seen old.tx) t (stands_of old live sh) it.1.it.node file.0 file.1 place count e reads

  -- ---- read

  stepped : (d : ℕ) (live : Live) (sh : ShowsLive old live) (r : Result (ℕ × OpenFile) Errno) → readable_in o fd count ≡ r
      → step (limits_of old) d live.world (calls.Read fd count)
      ≡ settled (world_in live.world.tree o) (as_described r >>= λ it. with_desk (world_in live.world.tree o) (with_description (desk_of o) it.0 (with_offset it.1 (it.1.offset + length (piece_at (content live.world.tree it.1.node) it.1.offset count)))) (replies.Read (piece_at (content live.world.tree it.1.node) it.1.offset count)))
  stepped d live sh r is =
      let t = live.world.tree in
      let w = world_in t o in
      (λ i. step (limits_of old) d (record { tree = t; desk = sh.desk i }) (calls.Read fd count))
      ∙ ap (λ x. settled w (x >>= λ it. with_desk w (with_description w.desk it.0 (with_offset it.1 (it.1.offset + length (piece_at (content t it.1.node) it.1.offset count)))) (replies.Read (piece_at (content t it.1.node) it.1.offset count))))
      (readable_same t o fd count sh.holds ∙ ap as_described is)

  pub read_refused : (e : Errno) → old.down ≡ None → readable_in o fd count ≡ Err e → GoesOn old (lines.Call (calls.Read fd count)) (answers.Reply (replies.Err e)) old
  read_refused e up is = idle_goes old (calls.Read fd count) (replies.Err e) up (λ w x. refl) refl (λ live sh.
      stepped (spare old) live sh (Err e) is ∙ (λ i. record { world = record { tree = live.world.tree; desk = sym sh.desk i }; reply = replies.Err e }))

  abbrev pub moved : OpenFile → List ℕ → OpenFile
  moved file text = at_offset file (min (file.it.offset + length text) (2 ^ 64 - 1))

  least : (n : ℕ) → n < 2 ^ 64 → min n (2 ^ 64 - 1) ≡ n
  least n low = omega arith

  pub read_goes : (it : ℕ × OpenFile) (text : List ℕ) → old.down ≡ None → readable_in o fd count ≡ Ok it → Reads (seen old.tx) it.1.it.node it.1.it.offset count (Ok text)
      → GoesOn old (lines.Call (calls.Read fd count)) (answers.Reply (replies.Read text)) (record old { files = with_file o it.0 (moved it.1 text) })
  read_goes it text up judged reads = turn_goes old (with_file o it.0 (moved it.1 text)) (calls.Read fd count) (replies.Read text) (spare old) (spare_free old) up refl (λ live sh.
      let t = live.world.tree in
      let x = reading it it.1.it.offset text judged reads live sh in
      let end : min (it.1.it.offset + length text) (2 ^ 64 - 1) ≡ it.1.it.offset + length text = least (it.1.it.offset + length text) (x.low x.knows.low) in
      let last : OpenFile = at_offset it.1 (it.1.it.offset + length text) in
      let same : moved it.1 text ≡ last = ap (at_offset it.1) end in (
        stepped (spare old) live sh (Ok it) judged
            ∙ (λ i. record { world = record { tree = t; desk = with_description (desk_of o) it.0 (with_offset it.1.it (it.1.it.offset + length (x.piece i))) }; reply = replies.Read (x.piece i) })
            ∙ (λ i. record { world = record { tree = t; desk = sym (with_file_desk o it.0 last) i }; reply = replies.Read text })
            ∙ (λ i. record { world = record { tree = t; desk = desk_of (with_file o it.0 (sym same i)) }; reply = replies.Read text }),
        refl,
        subst (λ f. Holds (with_file o it.0 f) t) (sym same) (file_holds t o it.0 it.1 last sh.holds (file_is o fd it x.at) (moved_knows t it.1 (it.1.it.offset + length text) (x.low x.knows.low) x.knows) refl),
      ))

  -- an error of the file itself never comes
  pub read_never : (it : ℕ × OpenFile) (place : ℕ) (e : Errno) (call : Call) (reply : Reply) (new : Volume) → old.down ≡ None → readable_in o fd count ≡ Ok it → Reads (seen old.tx) it.1.it.node place count (Err (No e)) → GoesOn old (lines.Call call) (answers.Reply reply) new
  read_never it place e call reply new up judged reads = up_goes old new call reply up (λ s live showing sh. absurd (never it place e judged reads live sh))

  -- ---- pread

  module _ (offset : ℤ) where
    pstepped : (d : ℕ) (live : Live) (sh : ShowsLive old live)
        → step (limits_of old) d live.world (calls.Pread fd count offset)
        ≡ settled (world_in live.world.tree o) (as_described (readable_in o fd count) >>= λ it. (EINVAL when is_negative offset) >> answered_by (world_in live.world.tree o) (replies.Read (piece_at (content live.world.tree it.1.node) (natural offset) count)))
    pstepped d live sh =
        let t = live.world.tree in
        let w = world_in t o in
        (λ i. step (limits_of old) d (record { tree = t; desk = sh.desk i }) (calls.Pread fd count offset))
        ∙ ap (λ x. settled w (x >>= λ it. (EINVAL when is_negative offset) >> answered_by w (replies.Read (piece_at (content t it.1.node) (natural offset) count)))) (readable_same t o fd count sh.holds)

    pub pread_refused : (e : Errno) → old.down ≡ None → readable_at o fd count offset ≡ Err e → GoesOn old (lines.Call (calls.Pread fd count offset)) (answers.Reply (replies.Err e)) old
    pread_refused e up is = idle_goes old (calls.Pread fd count offset) (replies.Err e) up (λ w x. refl) refl (λ live sh.
        pstepped (spare old) live sh ∙ refused_at (world_in live.world.tree o) (readable_in o fd count) (is_negative offset) _ e is ∙ (λ i. record { world = record { tree = live.world.tree; desk = sym sh.desk i }; reply = replies.Err e }))

    pub pread_goes : (it : ℕ × OpenFile) (text : List ℕ) → old.down ≡ None → readable_at o fd count offset ≡ Ok it → Reads (seen old.tx) it.1.it.node (natural offset) count (Ok text)
        → GoesOn old (lines.Call (calls.Pread fd count offset)) (answers.Reply (replies.Read text)) old
    pread_goes it text up judged reads = idle_goes old (calls.Pread fd count offset) (replies.Read text) up (λ w x. refl) refl (λ live sh.
        let t = live.world.tree in
        let w = world_in t o in
        let both = parted (readable_in o fd count) (is_negative offset) it judged in
        let x = reading it (natural offset) text both.0 reads live sh in
        pstepped (spare old) live sh
        ∙ (λ i. settled w (as_described (both.0 i) >>= λ it. (EINVAL when both.1 i) >> answered_by w (replies.Read (piece_at (content t it.1.node) (natural offset) count))))
        ∙ (λ i. record { world = record { tree = t; desk = sym sh.desk i }; reply = replies.Read (x.piece i) }))
