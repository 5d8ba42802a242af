-- Writing to a descriptor, in the tree that is shown.
use Rattle.std.proofs.Common.{◌≡◌, ℕ, ◌<◌, ◌≤◌, ◌+◌, ◌-◌, ◌==◌, ◌&&◌, inl, inr, true, false, cond, not, Bool, refl, sym, ◌∙◌, ap, subst, arith, List, [], ◌∷◌, length, take, replicate, Option, Some, None, Result, Ok, nat_lt, nat_le}
use Rattle.std.specs.Ordering.{nat_cmp}
use Rattle.std.specs.Option.{option_map}
use Rattle.std.specs.FinMap.{find, put}
use Rattle.std.proofs.lemmas.Bool.Decides.{nat_tests}
use Rattle.std.proofs.lemmas.List.{length-replicate}
use Rattle.std.proofs.lemmas.Option.{same_Some}
use Rattle.kfs_path.specs.Pieces.{is_empty}
use Rattle.kfs_path.specs.declared.call.Errno.{Errno}
use Rattle.kfs_path.specs.declared.call.Errno.TheVariants.{EBADF, EINVAL, EFBIG, ENOSPC}
use Rattle.kfs_path.specs.declared.call.Reply.TheVariants as replies
use Rattle.kfs_model.specs.declared.Description.{Description}
use Rattle.kfs_model.specs.declared.Node.TheVariants.{File}
use Rattle.kfs_model.specs.Ladder.{◌>>=◌, ◌>>◌, ◌when◌}
use Rattle.kfs_model.specs.Tree.{Tree, Limits, node_of, with_node, written, fits, fits_at, has_room, charge, chunks, greatest_length, IsTree}
use Rattle.kfs_model.specs.Desk.{Desk, is_open, opened, with_description}
use Rattle.kfs_model.specs.Step.{World, After, or_else, greatest_count, answers as answered_by}
use Rattle.kfs_laws.specs.Worlds.{IsDesk}
use Rattle.kfs_laws.proofs.Fitting.{fits_most}
use Rattle.kfs_laws.proofs.Lookups.{number_put, number_other, decide_number}
use Rattle.kfs_core.proofs.FileEffects.{charge_after, chunks_after}
use Rattle.kfs_core.specs.Room.{grown, chunks_for}
use Rattle.kfs_posix.specs.declared.open_files.OpenFile.{OpenFile}
use Rattle.kfs_posix.specs.Opens.{Opens, open_at, desk_of, with_file, relengthed, relengthed_file, moved_at, moved_to}
use Rattle.kfs_posix.specs.Holding.{Holds, Knows, is_file}
use Rattle.kfs_posix.specs.Turning.{at_offset}
use Rattle.kfs_posix.specs.Writing.{writable_in}
use Rattle.kfs_posix.proofs.Maps.{mapped, find-map}
use Rattle.kfs_posix.proofs.Held.{world_in, description, described, opened_same}
use Rattle.kfs_posix.proofs.Rooms.{both_true}
use Rattle.kfs_posix.proofs.ReadGoes.{as_described}

-- ---- a file's new content

-- what is known of each node, where one file has a new content
pub relengthed_knows : (t : Tree) (n : ℕ) (was bytes : List ℕ) (f : OpenFile) → node_of t n ≡ Some (File was) → Knows t f → Knows (with_node t n (File bytes)) (relengthed_file n (length bytes) f)
relengthed_knows t n was bytes f file knows = elim (decide_number f.it.node n) [
  | inl is ↦
      let test : (f.it.node == n) ≡ true = grind (arith, nat_tests) in
      let same : Some knows.node ≡ Some (File was) = sym knows.there ∙ ap (node_of t) is ∙ file in
      let node : knows.node ≡ File was = same_Some knows.node (File was) same in
      subst (Knows (with_node t n (File bytes))) (sym (ap (λ b. cond b (record f { length = length bytes }) f) test)) (record {
        node = File bytes;
        there = ap (λ k. find nat_cmp k (put nat_cmp n (File bytes) t.nodes)) is ∙ number_put n (File bytes) t.nodes;
        kind = knows.kind ∙ ap is_file node;
        length = refl;
        named = knows.named;
        writes = knows.writes;
        low = knows.low;
      })
  | inr apart ↦
      let test : (f.it.node == n) ≡ false = grind (arith, nat_tests) in
      subst (Knows (with_node t n (File bytes))) (sym (ap (λ b. cond b (record f { length = length bytes }) f) test)) (record {
        node = knows.node;
        there = number_other f.it.node n (File bytes) t.nodes apart ∙ knows.there;
        kind = knows.kind;
        length = knows.length;
        named = knows.named;
        writes = knows.writes;
        low = knows.low;
      })
]

pub same_it : (n size : ℕ) (f : OpenFile) → (relengthed_file n size f).it ≡ f.it
same_it n size f = by (f.it.node == n)
  where
    by : (b : Bool) → (cond b (record f { length = size }) f).it ≡ f.it
    by true = refl
    by false = refl

mapped_twice : (n size : ℕ) (es : List (ℕ × OpenFile)) → mapped description (mapped (relengthed_file n size) es) ≡ mapped description es
mapped_twice n size [] = refl
mapped_twice n size (e ∷ es) = λ i. (e.0, same_it n size e.1 i) ∷ mapped_twice n size es i

-- the descriptions stay
pub relengthed_desk : (o : Opens) (n size : ℕ) → desk_of (relengthed o n size) ≡ desk_of o
relengthed_desk o n size = λ i. record { descriptors = o.descriptors; descriptions = mapped_twice n size o.files i }

pub relengthed_at : (o : Opens) (n size d : ℕ) (f : OpenFile) → find nat_cmp d o.files ≡ Some f → find nat_cmp d (relengthed o n size).files ≡ Some (relengthed_file n size f)
relengthed_at o n size d f e = find-map (relengthed_file n size) d o.files ∙ ap (option_map (relengthed_file n size)) e

pub relengthed_holds : (t : Tree) (o : Opens) (n : ℕ) (was bytes : List ℕ) → node_of t n ≡ Some (File was) → Holds o t → Holds (relengthed o n (length bytes)) (with_node t n (File bytes))
relengthed_holds t o n was bytes file holds = record {
  desk = subst IsDesk (sym (relengthed_desk o n (length bytes))) holds.desk;
  known = λ d f is. by d f (find nat_cmp d o.files) refl (sym (find-map (relengthed_file n (length bytes)) d o.files) ∙ is);
  kept = λ k node there none. ap (λ (desk : Desk). is_open desk k) (relengthed_desk o n (length bytes)) ∙ elim (decide_number k n) [
    | inl is ↦ holds.kept k (File was) (ap (node_of t) is ∙ file) none
    | inr apart ↦ holds.kept k node (sym (number_other k n (File bytes) t.nodes apart) ∙ there) none
  ];
}
  where
    by : (d : ℕ) (f : OpenFile) (x : Option OpenFile) → find nat_cmp d o.files ≡ x → option_map (relengthed_file n (length bytes)) x ≡ Some f → Knows (with_node t n (File bytes)) f
    by d f None at e = absurd (cc)
    by d f (Some g) at e = subst (Knows (with_node t n (File bytes))) (same_Some (relengthed_file n (length bytes) g) f e) (relengthed_knows t n was bytes g file (holds.known d g at))

-- and the offset moves
pub moved_is : (o : Opens) (d p : ℕ) (f : OpenFile) → find nat_cmp d o.files ≡ Some f → moved_to o d p ≡ with_file o d (at_offset f p)
moved_is o d p f e = ap (moved_at o d p) e

-- ---- the room

-- as many bytes as fit leave room, and a file that isn't too long
module _ (k : Limits) (t : Tree) (tree : IsTree t) (n : ℕ) (bytes : List ℕ) (file : node_of t n ≡ Some (File bytes)) (p m : ℕ) (given : List ℕ) (some : 0 < fits k t n bytes p m) (long : length given ≡ fits k t n bytes p m) where
  test : fits_at k t n bytes p (fits k t n bytes p m) ≡ true
  test = elim (fits_most k t n bytes p m).passes [ inl none ↦ absurd (omega arith) | inr e ↦ e ]

  abbrev j : ℕ
  j = fits k t n bytes p m

  parts : (nat_le (p + j) greatest_length ≡ true) × (has_room k (with_node t n (File (written bytes p (replicate j 0)))) ≡ true)
  parts = both_true (nat_le (p + j) greatest_length) (has_room k (with_node t n (File (written bytes p (replicate j 0))))) test

  pub fits_short : p + length given ≤ greatest_length
  fits_short = let h = parts.0 in let le : p + j ≤ greatest_length = grind (arith, nat_tests) in let l = long in omega arith

  zeros : length {A = ℕ} (replicate j 0) ≡ length given
  zeros = length-replicate {A = ℕ} j 0 ∙ sym long

  pub fits_room : has_room k (with_node t n (File (written bytes p given))) ≡ true
  fits_room =
      let a = charge_after t n bytes tree file p given in
      let b = charge_after t n bytes tree file p (replicate j 0) in
      let c = chunks_after t n bytes tree file p given in
      let d = chunks_after t n bytes tree file p (replicate j 0) in
      let charge_is : charge (with_node t n (File (written bytes p (replicate j 0)))) ≡ charge (with_node t n (File (written bytes p given))) =
      sym b ∙ ap (λ l. charge t + (chunks_for (grown (length bytes) p l) - chunks_for (length bytes))) zeros ∙ a in
      let chunks_is : chunks (with_node t n (File (written bytes p (replicate j 0)))) ≡ chunks (with_node t n (File (written bytes p given))) =
      sym d ∙ ap (λ l. chunks t + (chunks_for (grown (length bytes) p l) - chunks_for (length bytes))) zeros ∙ c in
      sym (λ i. nat_le (charge_is i) k.keys && nat_le (chunks_is i) k.pages) ∙ parts.1

-- ---- the judge

abbrev tests : Bool → ℕ × Description → Result (ℕ × Description) Errno
tests a it = (EBADF when a) >> Ok it

abbrev pub writable : World → ℕ → Result (ℕ × Description) Errno
writable w fd = or_else (opened w.desk fd) EBADF >>= λ it. (EBADF when not it.1.write) >> Ok it

pub writable_same : (t : Tree) (o : Opens) (fd : ℕ) → writable (world_in t o) fd ≡ as_described (writable_in o fd)
writable_same t o fd = ap (λ x. or_else x EBADF >>= λ it. tests (not it.1.write) it) (opened_same o fd) ∙ by (open_at o fd)
  where
    last : (it : ℕ × OpenFile) (a : Bool) → tests a (described it) ≡ as_described ((EBADF when a) >> Ok it)
    last it true = refl
    last it false = refl

    by : (x : Option (ℕ × OpenFile)) → (or_else (option_map described x) EBADF >>= λ it. tests (not it.1.write) it) ≡ as_described (or_else x EBADF >>= λ it. (EBADF when not it.1.it.write) >> Ok it)
    by None = refl
    by (Some it) = last it (not it.1.it.write)

pub writable_is : (o : Opens) (fd : ℕ) (it : ℕ × OpenFile) → writable_in o fd ≡ Ok it → (open_at o fd ≡ Some it) × (it.1.it.write ≡ true)
writable_is o fd it e = by (open_at o fd) refl e
  where
    not_false : (b : Bool) → not b ≡ false → b ≡ true
    not_false true e = refl
    not_false false e = absurd (cc)

    last : (x : ℕ × OpenFile) (a : Bool) → not x.1.it.write ≡ a → open_at o fd ≡ Some x → ((EBADF when a) >> Ok x) ≡ Ok it → (open_at o fd ≡ Some it) × (it.1.it.write ≡ true)
    last x true f at e = absurd (cc)
    last x false f at e = let same : x ≡ it = cc in (at ∙ ap Some same, ap (λ (q : ℕ × OpenFile). q.1.it.write) (sym same) ∙ not_false x.1.it.write f)

    by : (x : Option (ℕ × OpenFile)) → open_at o fd ≡ x → (or_else x EBADF >>= λ it. (EBADF when not it.1.it.write) >> Ok it) ≡ Ok it → (open_at o fd ≡ Some it) × (it.1.it.write ≡ true)
    by None at e = absurd (cc)
    by (Some x) at e = last x (not x.1.it.write) refl at e

-- what writing leaves, and answers
abbrev pub wrote_after : World → ℕ → Description → List ℕ → List ℕ → ℕ → ℕ → After
wrote_after w d it given bytes p j = record {
  world = record {
    tree = with_node w.tree it.node (File (written bytes p (take j given)));
    desk = with_description w.desk d (record { node = it.node; offset = p + j; read = it.read; write = it.write; append = it.append });
  };
  reply = replies.Number j;
}

-- of so many bytes that may be written
abbrev pub writes_some : Limits → World → ℕ → Description → List ℕ → List ℕ → ℕ → Result After Errno
writes_some k w d it given bytes p =
    (EFBIG when nat_le greatest_length p) >> ((ENOSPC when (fits k w.tree it.node bytes p (length given) == 0)) >> Ok (wrote_after w d it given bytes p (fits k w.tree it.node bytes p (length given))))

-- with the content and the place given
abbrev pub writes_at : Limits → World → ℕ → Description → List ℕ → List ℕ → ℕ → Result After Errno
writes_at k w d it given bytes p =
    (EINVAL when nat_lt greatest_count (length given)) >> cond (is_empty given) (answered_by w (replies.Number 0)) (writes_some k w d it given bytes p)
