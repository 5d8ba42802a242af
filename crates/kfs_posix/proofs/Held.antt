-- What is open, and what is known of it, as the tree and the open files change.
use Rattle.std.proofs.Common.{◌≡◌, ◌≢◌, ℕ, ◌==◌, ◌||◌, inl, inr, true, false, cond, not, Bool, refl, sym, ◌∙◌, ap, subst, arith, List, [], ◌∷◌, filter, Option, Some, None, Result, Ok, nat_le, ℤ, pos, ◌+ℤ◌, ◌^◌, length, ◌<◌}
use Rattle.std.specs.Ordering.{nat_cmp, is_eq}
use Rattle.std.specs.declared.cmp.Ordering.{Ordering}
use Rattle.std.specs.declared.cmp.Ordering.TheVariants.{Less, Equal, Greater}
use Rattle.std.specs.List.{list_any}
use Rattle.std.specs.Option.{option_map, option_and_then}
use Rattle.std.specs.FinMap.{find, put, nat_cmp-IsAntisymmetric}
use Rattle.std.specs.FinMap.Entries.{by_order, is_sorted-where_key, find-where_key}
use Rattle.std.proofs.lemmas.Bool.Decides.{nat_tests}
use Rattle.std.proofs.lemmas.Option.{same_Some}
use Rattle.kfs_path.specs.declared.call.Errno.{Errno}
use Rattle.kfs_path.specs.declared.call.Errno.TheVariants.{EBADF, EMFILE, EINVAL, EOVERFLOW}
use Rattle.kfs_path.specs.declared.call.Reply.{Reply}
use Rattle.kfs_path.specs.declared.call.Reply.TheVariants as replies
use Rattle.kfs_path.specs.declared.call.Whence.{Whence}
use Rattle.kfs_path.specs.declared.call.Whence.TheVariants.{Set, Cur, End}
use Rattle.kfs_model.specs.declared.Node.{Node}
use Rattle.kfs_model.specs.declared.Node.TheVariants.{Dir, File}
use Rattle.kfs_model.specs.declared.Description.{Description}
use Rattle.kfs_model.specs.Ladder.{◌>>=◌, ◌>>◌, ◌when◌}
use Rattle.kfs_model.specs.Tree.{Tree, Place, place_cmp, node_of, number_at, is_named, with_new, IsTree}
use Rattle.kfs_model.specs.Desk.{Desk, opened, lowest_free, is_open, with_description}
use Rattle.kfs_model.specs.Step.{World, After, settled, or_else, dup, lseek, fstat, swept, with_desk, content, told, with_offset, natural, is_negative}
use Rattle.kfs_laws.specs.Worlds.{IsDesk}
use Rattle.kfs_laws.proofs.Lookups.{same_numbers, number_put, number_other, decide_number, number_apart, number_tied, some_found, or_left, place_put}
use Rattle.kfs_laws.proofs.Desks.{empty_is, sharing_is, moving_is}
use Rattle.kfs_posix.specs.declared.open_files.OpenFile.{OpenFile}
use Rattle.kfs_posix.specs.Opens.{Opens, no_files, desk_of, open_at, with_descriptor, with_file, closed, without, is_held}
use Rattle.kfs_posix.specs.Holding.{Holds, Knows, is_file, size_of}
use Rattle.kfs_posix.specs.Turning.{Turn, turned, dup_in, lseek_in, fstat_in, base, at_offset}
use Rattle.kfs_posix.proofs.Slots.{find_without}
use Rattle.kfs_posix.proofs.Maps.{mapped, find-map, put-map, filter-map}

abbrev pub description : OpenFile → Description
description f = f.it

abbrev pub described : ℕ × OpenFile → ℕ × Description
described e = (e.0, e.1.it)

-- what a descriptor has open
pub opened_same : (o : Opens) (fd : ℕ) → opened (desk_of o) fd ≡ option_map described (open_at o fd)
opened_same o fd = by (find nat_cmp fd o.descriptors)
  where
    inner : (d : ℕ) (x : Option OpenFile) → option_map {U = ℕ × Description} (λ it. (d, it)) (option_map description x) ≡ option_map described (option_map (λ f. (d, f)) x)
    inner d None = refl
    inner d (Some f) = refl

    by : (x : Option ℕ) → option_and_then {U = ℕ × Description} (λ d. option_map {U = ℕ × Description} (λ it. (d, it)) (find nat_cmp d (mapped description o.files))) x ≡ option_map described (option_and_then (λ d. option_map (λ f. (d, f)) (find nat_cmp d o.files)) x)
    by None = refl
    by (Some d) = ap (option_map {U = ℕ × Description} (λ it. (d, it))) (find-map description d o.files) ∙ inner d (find nat_cmp d o.files)

-- and its number
pub file_is : (o : Opens) (fd : ℕ) (it : ℕ × OpenFile) → open_at o fd ≡ Some it → find nat_cmp it.0 o.files ≡ Some it.1
file_is o fd it e = by (find nat_cmp fd o.descriptors) e
  where
    inner : (d : ℕ) (x : Option OpenFile) → find nat_cmp d o.files ≡ x → option_map {U = ℕ × OpenFile} (λ f. (d, f)) x ≡ Some it → find nat_cmp it.0 o.files ≡ Some it.1
    inner d None is e = absurd (cc)
    inner d (Some f) is e = let pair = same_Some (d, f) it e in ap (λ (q : ℕ × OpenFile). find nat_cmp q.0 o.files) (sym pair) ∙ is ∙ ap (λ (q : ℕ × OpenFile). Some q.1) pair

    by : (x : Option ℕ) → option_and_then {U = ℕ × OpenFile} (λ d. option_map {U = ℕ × OpenFile} (λ f. (d, f)) (find nat_cmp d o.files)) x ≡ Some it → find nat_cmp it.0 o.files ≡ Some it.1
    by None e = absurd (cc)
    by (Some d) e = inner d (find nat_cmp d o.files) refl e

pub described_is : (o : Opens) (d : ℕ) (f : OpenFile) → find nat_cmp d o.files ≡ Some f → find nat_cmp d (desk_of o).descriptions ≡ Some f.it
described_is o d f e = find-map description d o.files ∙ ap (option_map description) e

pub with_file_desk : (o : Opens) (d : ℕ) (f : OpenFile) → desk_of (with_file o d f) ≡ with_description (desk_of o) d f.it
with_file_desk o d f = λ i. record { descriptors = o.descriptors; descriptions = put-map description d f o.files i }

-- ---- the world that the open files and a tree are

abbrev pub world_in : Tree → Opens → World
world_in t o = record { tree = t; desk = desk_of o }

abbrev pub after_in : Tree → Turn → After
after_in t turn = record { world = world_in t turn.files; reply = turn.reply }

abbrev settles : Tree → Opens → Result After Errno → Result Turn Errno → Type 0
settles t o r s = settled (world_in t o) r ≡ after_in t (turned o s)

-- ---- dup

abbrev dup_from : World → Option (ℕ × Description) → Option ℕ → Result After Errno
dup_from w x y = or_else x EBADF >>= λ it. or_else y EMFILE >>= λ new. with_desk w (record { descriptors = put nat_cmp new it.0 w.desk.descriptors; descriptions = w.desk.descriptions }) (replies.Number new)

abbrev dup_of : Opens → Option (ℕ × OpenFile) → Option ℕ → Result Turn Errno
dup_of o x y = or_else x EBADF >>= λ it. or_else y EMFILE >>= λ new. Ok (record { files = with_descriptor o new it.0; reply = replies.Number new })

pub dup_same : (t : Tree) (o : Opens) (fd : ℕ) → settled (world_in t o) (dup (world_in t o) fd) ≡ after_in t (turned o (dup_in o fd))
dup_same t o fd = ap (λ x. settled (world_in t o) (dup_from (world_in t o) x (lowest_free (desk_of o)))) (opened_same o fd) ∙ by (open_at o fd) (lowest_free (desk_of o))
  where
    by : (x : Option (ℕ × OpenFile)) (y : Option ℕ) → settles t o (dup_from (world_in t o) (option_map described x) y) (dup_of o x y)
    by None y = refl
    by (Some it) None = refl
    by (Some it) (Some new) = refl

pub dup_holds : (t : Tree) (o : Opens) (fd : ℕ) → Holds o t → Holds (turned o (dup_in o fd)).files t
dup_holds t o fd holds = by (open_at o fd) refl (lowest_free (desk_of o)) refl
  where
    by : (x : Option (ℕ × OpenFile)) → open_at o fd ≡ x → (y : Option ℕ) → lowest_free (desk_of o) ≡ y → Holds (turned o (dup_of o x y)).files t
    by None e y f = holds
    by (Some it) e None f = holds
    by (Some it) e (Some new) f = record {
      desk = sharing_is (desk_of o) holds.desk new it.0 it.1.it f (described_is o it.0 it.1 (file_is o fd it e));
      known = holds.known;
      kept = holds.kept;
    }

-- ---- fstat

abbrev fstat_from : Tree → World → Option (ℕ × Description) → Result After Errno
fstat_from t w x = or_else x EBADF >>= λ it. told (option_map (λ node. (it.1.node, node)) (find nat_cmp it.1.node t.nodes)) >>= λ reply. Ok (record { world = w; reply = reply })

abbrev fstat_reply : OpenFile → Reply
fstat_reply f = cond f.file (replies.File f.it.node f.length) (replies.Dir f.it.node)

told_known : (t : Tree) (f : OpenFile) → Knows t f → told (option_map (λ node. (f.it.node, node)) (find nat_cmp f.it.node t.nodes)) ≡ Ok (fstat_reply f)
told_known t f knows = ap (λ x. told (option_map (λ node. (f.it.node, node)) x)) knows.there ∙ by knows.node knows.kind knows.length
  where
    by : (node : Node) → f.file ≡ is_file node → f.length ≡ size_of node → told (Some (f.it.node, node)) ≡ Ok (fstat_reply f)
    by Dir a b = sym (ap (λ x. Ok (cond x (replies.File f.it.node f.length) (replies.Dir f.it.node))) a)
    by (File bytes) a b = sym (ap (λ x. Ok (cond x (replies.File f.it.node f.length) (replies.Dir f.it.node))) a ∙ ap (λ n. Ok (replies.File f.it.node n)) b)

pub fstat_same : (t : Tree) (o : Opens) (fd : ℕ) → Holds o t → settled (world_in t o) (fstat (world_in t o) fd) ≡ after_in t (turned o (fstat_in o fd))
fstat_same t o fd holds = ap (λ x. settled (world_in t o) (fstat_from t (world_in t o) x)) (opened_same o fd) ∙ by (open_at o fd) refl
  where
    by : (x : Option (ℕ × OpenFile)) → open_at o fd ≡ x → settled (world_in t o) (fstat_from t (world_in t o) (option_map described x)) ≡ after_in t (turned o (or_else x EBADF >>= λ it. Ok (record { files = o; reply = fstat_reply it.1 })))
    by None e = refl
    by (Some it) e = ap (λ r. settled (world_in t o) (r >>= λ reply. Ok (record { world = world_in t o; reply = reply }))) (told_known t it.1 (holds.known it.0 it.1 (file_is o fd it e)))

pub fstat_files : (o : Opens) (fd : ℕ) → (turned o (fstat_in o fd)).files ≡ o
fstat_files o fd = by (open_at o fd)
  where
    by : (x : Option (ℕ × OpenFile)) → (turned o (or_else x EBADF >>= λ it. Ok (record { files = o; reply = fstat_reply it.1 }))).files ≡ o
    by None = refl
    by (Some it) = refl

-- ---- lseek

sized : (t : Tree) (n : ℕ) (node : Node) → node_of t n ≡ Some node → length (content t n) ≡ size_of node
sized t n Dir e = rw e refl
sized t n (File bytes) e = rw e refl

pub content_known : (t : Tree) (f : OpenFile) → Knows t f → length (content t f.it.node) ≡ f.length
content_known t f knows = sized t f.it.node knows.node knows.there ∙ sym knows.length

abbrev seek : World → ℕ × Description → ℤ → Result After Errno
seek w it to = (EINVAL when is_negative to) >> ((EOVERFLOW when nat_le (2 ^ 63) (natural to)) >> with_desk w (with_description w.desk it.0 (with_offset it.1 (natural to))) (replies.Number (natural to)))

abbrev seek_in : Opens → ℕ × OpenFile → ℤ → Result Turn Errno
seek_in o it to = (EINVAL when is_negative to) >> ((EOVERFLOW when nat_le (2 ^ 63) (natural to)) >> Ok (record { files = with_file o it.0 (at_offset it.1 (natural to)); reply = replies.Number (natural to) }))

seek_same : (t : Tree) (o : Opens) (it : ℕ × OpenFile) (to : ℤ) → settles t o (seek (world_in t o) (described it) to) (seek_in o it to)
seek_same t o it to = by (is_negative to) (nat_le (2 ^ 63) (natural to))
  where
    by : (a b : Bool) → settles t o ((EINVAL when a) >> ((EOVERFLOW when b) >> with_desk (world_in t o) (with_description (desk_of o) it.0 (with_offset it.1.it (natural to))) (replies.Number (natural to))))
        ((EINVAL when a) >> ((EOVERFLOW when b) >> Ok (record { files = with_file o it.0 (at_offset it.1 (natural to)); reply = replies.Number (natural to) })))
    by true b = refl
    by false true = refl
    by false false = λ i. record { world = record { tree = t; desk = sym (with_file_desk o it.0 (at_offset it.1 (natural to))) i }; reply = replies.Number (natural to) }

abbrev seek_by : World → (Description → ℕ) → ℤ → Option (ℕ × Description) → Result After Errno
seek_by w from offset x = or_else x EBADF >>= λ it. seek w it (pos (from it.1) +ℤ offset)

abbrev seek_by_in : Opens → Whence → ℤ → Option (ℕ × OpenFile) → Result Turn Errno
seek_by_in o whence offset x = or_else x EBADF >>= λ it. seek_in o it (pos (base it.1 whence) +ℤ offset)

seek_from : (t : Tree) (o : Opens) (fd : ℕ) (whence : Whence) (offset : ℤ) (from : Description → ℕ) → ((it : ℕ × OpenFile) → open_at o fd ≡ Some it → from it.1.it ≡ base it.1 whence)
    → settles t o (seek_by (world_in t o) from offset (opened (desk_of o) fd)) (lseek_in o fd whence offset)
seek_from t o fd whence offset from same = ap (λ x. settled (world_in t o) (seek_by (world_in t o) from offset x)) (opened_same o fd) ∙ by (open_at o fd) refl
  where
    by : (x : Option (ℕ × OpenFile)) → open_at o fd ≡ x → settles t o (seek_by (world_in t o) from offset (option_map described x)) (seek_by_in o whence offset x)
    by None e = refl
    by (Some it) e = ap (λ n. settled (world_in t o) (seek (world_in t o) (described it) (pos n +ℤ offset))) (same it e) ∙ seek_same t o it (pos (base it.1 whence) +ℤ offset)

pub lseek_same : (t : Tree) (o : Opens) (fd : ℕ) (whence : Whence) (offset : ℤ) → Holds o t → settled (world_in t o) (lseek (world_in t o) fd whence offset) ≡ after_in t (turned o (lseek_in o fd whence offset))
lseek_same t o fd Set offset holds = seek_from t o fd Set offset (λ it. 0) (λ it e. refl)
lseek_same t o fd Cur offset holds = seek_from t o fd Cur offset (λ it. it.offset) (λ it e. refl)
lseek_same t o fd End offset holds = seek_from t o fd End offset (λ it. length (content t it.node)) (λ it e. content_known t it.1 (holds.known it.0 it.1 (file_is o fd it e)))

or_right : (a b : Bool) → b ≡ true → (a || b) ≡ true
or_right true b e = refl
or_right false b e = e

-- an entry whose value passes a test, or passes it as the one before did
put_any : {X : Type 0} (f : X → Bool) (d : ℕ) (x : X) (es : List (ℕ × X)) → ((y : X) → find nat_cmp d es ≡ Some y → f y ≡ true → f x ≡ true) → list_any (λ e. f e.1) es ≡ true → list_any (λ e. f e.1) (put nat_cmp d x es) ≡ true
put_any f d x [] h e = absurd (cc)
put_any {X} f d x (y ∷ es) h e = by (nat_cmp d y.0) h (λ g. put_any f d x es g)
  where
    same : (a : Bool) → (a ≡ true → f x ≡ true) → (a || list_any (λ e. f e.1) es) ≡ true → (f x || list_any (λ e. f e.1) es) ≡ true
    same true g e = or_left (f x) (list_any (λ e. f e.1) es) (g refl)
    same false g e = or_right (f x) (list_any (λ e. f e.1) es) e

    later : (a : Bool) → (list_any (λ e. f e.1) es ≡ true → list_any (λ e. f e.1) (put nat_cmp d x es) ≡ true) → (a || list_any (λ e. f e.1) es) ≡ true → (a || list_any (λ e. f e.1) (put nat_cmp d x es)) ≡ true
    later true g e = refl
    later false g e = g e

    by : (r : Ordering) → ((z : X) → cond (is_eq r) (Some y.1) (find nat_cmp d es) ≡ Some z → f z ≡ true → f x ≡ true)
        → (((z : X) → find nat_cmp d es ≡ Some z → f z ≡ true → f x ≡ true) → list_any (λ e. f e.1) es ≡ true → list_any (λ e. f e.1) (put nat_cmp d x es) ≡ true)
        → list_any (λ e. f e.1) (by_order r ((d, x) ∷ y ∷ es) ((y.0, x) ∷ es) (y ∷ put nat_cmp d x es)) ≡ true
    by Less h rest = or_right (f x) (f y.1 || list_any (λ e. f e.1) es) e
    by Equal h rest = same (f y.1) (h y.1 refl) e
    by Greater h rest = later (f y.1) (rest h) e

-- what was open still is where another open file lies under a number
pub put_open : (o : Opens) (d : ℕ) (f : OpenFile) (n : ℕ) → ((was : OpenFile) → find nat_cmp d o.files ≡ Some was → f.it.node ≡ was.it.node) → is_open (desk_of o) n ≡ true → is_open (desk_of (with_file o d f)) n ≡ true
put_open o d f n same opened =
    ap (λ (k : Desk). is_open k n) (with_file_desk o d f)
    ∙ put_any (λ (it : Description). it.node == n) d f.it (mapped description o.files) (λ y e is. by (find nat_cmp d o.files) refl y (sym (find-map description d o.files) ∙ e) is) opened
  where
    by : (x : Option OpenFile) → find nat_cmp d o.files ≡ x → (y : Description) → option_map description x ≡ Some y → (y.node == n) ≡ true → (f.it.node == n) ≡ true
    by None is y e t = absurd (cc)
    by (Some was) is y e t = ap (λ k. k == n) (same was is ∙ ap (λ (it : Description). it.node) (same_Some was.it y e)) ∙ t

-- another open file of the same node under a number that has one
pub file_holds : (t : Tree) (o : Opens) (d : ℕ) (was f : OpenFile) → Holds o t → find nat_cmp d o.files ≡ Some was → Knows t f → f.it.node ≡ was.it.node → Holds (with_file o d f) t
file_holds t o d was f holds has knows node = record {
  desk = subst IsDesk (sym (with_file_desk o d f)) (moving_is (desk_of o) holds.desk d was.it f.it (described_is o d was has));
  known = λ e g is. elim (decide_number e d) [
    | inl same ↦ subst (Knows t) (same_Some f g (sym (number_put d f o.files) ∙ ap (λ k. find nat_cmp k (put nat_cmp d f o.files)) (sym same) ∙ is)) knows
    | inr other ↦ holds.known e g (sym (number_other e d f o.files other) ∙ is)
  ];
  kept = λ n x there none. put_open o d f n (λ old e. node ∙ ap (λ (g : OpenFile). g.it.node) (same_Some was old (sym has ∙ e))) (holds.kept n x there none);
}

pub moved_knows : (t : Tree) (f : OpenFile) (p : ℕ) → p < 2 ^ 64 → Knows t f → Knows t (at_offset f p)
moved_knows t f p low knows = record { node = knows.node; there = knows.there; kind = knows.kind; length = knows.length; named = knows.named; writes = knows.writes; low = low }

pub lseek_holds : (t : Tree) (o : Opens) (fd : ℕ) (whence : Whence) (offset : ℤ) → Holds o t → Holds (turned o (lseek_in o fd whence offset)).files t
lseek_holds t o fd whence offset holds = by (open_at o fd) refl
  where
    tail : (it : ℕ × OpenFile) → open_at o fd ≡ Some it → (to : ℤ) (a b : Bool) → nat_le (2 ^ 63) (natural to) ≡ b → Holds (turned o ((EINVAL when a) >> ((EOVERFLOW when b) >> Ok (record { files = with_file o it.0 (at_offset it.1 (natural to)); reply = replies.Number (natural to) })))).files t
    tail it e to true b f = holds
    tail it e to false true f = holds
    tail it e to false false f = let has = file_is o fd it e in file_holds t o it.0 it.1 (at_offset it.1 (natural to)) holds has (moved_knows t it.1 (natural to) (let h = f in grind (arith, nat_tests)) (holds.known it.0 it.1 has)) refl

    by : (x : Option (ℕ × OpenFile)) → open_at o fd ≡ x → Holds (turned o (seek_by_in o whence offset x)).files t
    by None e = holds
    by (Some it) e = let to = pos (base it.1 whence) +ℤ offset in tail it e to (is_negative to) (nat_le (2 ^ 63) (natural to)) refl

-- ---- a new node, under a place that named nothing

or_apart : (a b : Bool) → a ≡ false → (a || b) ≡ b
or_apart a b e = ap (λ x. x || b) e

named_put : (place : Place) (v n : ℕ) (es : List (Place × ℕ)) → (v == n) ≡ false → find place_cmp place es ≡ None → list_any (λ e. e.1 == n) (put place_cmp place v es) ≡ list_any (λ e. e.1 == n) es
named_put place v n [] apart none = or_apart (v == n) false apart
named_put place v n (e ∷ es) apart none = by (place_cmp place e.0) none (named_put place v n es apart)
  where
    by : (r : Ordering) → cond (is_eq r) (Some e.1) (find place_cmp place es) ≡ None → (find place_cmp place es ≡ None → list_any (λ e. e.1 == n) (put place_cmp place v es) ≡ list_any (λ e. e.1 == n) es)
        → list_any (λ e. e.1 == n) (by_order r ((place, v) ∷ e ∷ es) ((e.0, v) ∷ es) (e ∷ put place_cmp place v es)) ≡ ((e.1 == n) || list_any (λ e. e.1 == n) es)
    by Less h rest = or_apart (v == n) ((e.1 == n) || list_any (λ e. e.1 == n) es) apart
    by Equal h rest = absurd (cc)
    by Greater h rest = ap (λ b. (e.1 == n) || b) (rest h)

pub new_knows : (t : Tree) (place : Place) (node : Node) (f : OpenFile) → number_at t place ≡ None → f.it.node ≢ t.next → Knows t f → Knows (with_new t place node) f
new_knows t place node f free apart knows = record {
  node = knows.node;
  there = number_other f.it.node t.next node t.nodes apart ∙ knows.there;
  kind = knows.kind;
  length = knows.length;
  named = knows.named ∙ sym (named_put place t.next f.it.node t.names (let d = apart in grind (arith, nat_tests)) free);
  writes = knows.writes;
  low = knows.low;
}

-- ---- close

pub descriptor_is : (o : Opens) (fd : ℕ) (it : ℕ × OpenFile) → open_at o fd ≡ Some it → find nat_cmp fd o.descriptors ≡ Some it.0
descriptor_is o fd it e = by (find nat_cmp fd o.descriptors) refl e
  where
    inner : (d : ℕ) (x : Option OpenFile) → option_map {U = ℕ × OpenFile} (λ f. (d, f)) x ≡ Some it → d ≡ it.0
    inner d None e = absurd (cc)
    inner d (Some f) e = ap (λ (q : ℕ × OpenFile). q.0) (same_Some (d, f) it e)

    by : (x : Option ℕ) → find nat_cmp fd o.descriptors ≡ x → option_and_then {U = ℕ × OpenFile} (λ d. option_map {U = ℕ × OpenFile} (λ f. (d, f)) (find nat_cmp d o.files)) x ≡ Some it → find nat_cmp fd o.descriptors ≡ Some it.0
    by None is e = absurd (cc)
    by (Some d) is e = is ∙ ap Some (inner d (find nat_cmp d o.files) e)

abbrev pub closed_desk : Desk → ℕ → Desk
closed_desk desk fd = record { descriptors = without desk.descriptors fd; descriptions = filter (λ e. is_held (without desk.descriptors fd) e.0) desk.descriptions }

module _ (o : Opens) (fd : ℕ) (it : ℕ × OpenFile) (desk : IsDesk (desk_of o)) (has : open_at o fd ≡ Some it) where
  abbrev left : List (ℕ × ℕ)
  left = without o.descriptors fd

  abbrev whole : List (ℕ × Description)
  whole = mapped description o.files

  find_held : (d : ℕ) → find nat_cmp d (filter (λ e. is_held left e.0) whole) ≡ cond (is_held left d) (find nat_cmp d whole) None
  find_held d = find-where_key nat_cmp (is_held left) d (λ x e. ap (is_held left) (sym (nat_cmp-IsAntisymmetric d x e))) whole

  -- another description keeps a descriptor
  still_held : (d : ℕ) (x : Description) → d ≢ it.0 → find nat_cmp d whole ≡ Some x → is_held left d ≡ true
  still_held d x other e =
      let h = desk.held d x e in
      let apart : h.0 ≢ fd = λ same. other (same_Some d it.0 (sym h.1 ∙ ap (λ g. find nat_cmp g o.descriptors) same ∙ descriptor_is o fd it has)) in
      let t : (h.0 == fd) ≡ false = grind (arith, nat_tests) in
      some_found nat_cmp left h.0 d (find_without fd h.0 o.descriptors ∙ ap (λ b. cond (not b) (find nat_cmp h.0 o.descriptors) None) t ∙ h.1)

  other_same : (d : ℕ) → d ≢ it.0 → cond (is_held left d) (find nat_cmp d whole) None ≡ find nat_cmp d whole
  other_same d other = by (find nat_cmp d whole) refl
    where
      by : (x : Option Description) → find nat_cmp d whole ≡ x → cond (is_held left d) (find nat_cmp d whole) None ≡ find nat_cmp d whole
      by None e = ap (λ y. cond (is_held left d) y None) e ∙ none (is_held left d) ∙ sym e
        where
          none : (b : Bool) → cond {A = Option Description} b None None ≡ None
          none true = refl
          none false = refl
      by (Some x) e = ap (λ b. cond b (find nat_cmp d whole) None) (still_held d x other e)

  kept_held : is_held left it.0 ≡ true → filter (λ e. is_held left e.0) whole ≡ whole
  kept_held last = same_numbers (filter (λ e. is_held left e.0) whole) whole (is_sorted-where_key nat_cmp (is_held left) whole desk.sorted_descriptions) desk.sorted_descriptions (λ d. find_held d ∙ elim (decide_number d it.0) [
    | inl same ↦ ap (λ b. cond b (find nat_cmp d whole) None) (ap (is_held left) same ∙ last)
    | inr other ↦ other_same d other
  ])

  dropped : is_held left it.0 ≡ false → filter (λ e. is_held left e.0) whole ≡ filter (λ e. not (e.0 == it.0)) whole
  dropped last = same_numbers (filter (λ e. is_held left e.0) whole) (filter (λ e. not (e.0 == it.0)) whole) (is_sorted-where_key nat_cmp (is_held left) whole desk.sorted_descriptions) (is_sorted-where_key nat_cmp (λ k. not (k == it.0)) whole desk.sorted_descriptions) (λ d. find_held d ∙ elim (decide_number d it.0) [
    | inl same ↦
        let t : (d == it.0) ≡ true = grind (arith, nat_tests) in
        ap (λ b. cond b (find nat_cmp d whole) None) (ap (is_held left) same ∙ last) ∙ sym (find_without it.0 d whole ∙ ap (λ b. cond (not b) (find nat_cmp d whole) None) t)
    | inr other ↦
        let t : (d == it.0) ≡ false = grind (arith, nat_tests) in
        other_same d other ∙ sym (find_without it.0 d whole ∙ ap (λ b. cond (not b) (find nat_cmp d whole) None) t)
  ])

  pub closed_same : closed_desk (desk_of o) fd ≡ desk_of (closed o fd it.0)
  closed_same = λ i. record { descriptors = left; descriptions = by (is_held left it.0) refl i }
    where
      by : (b : Bool) → is_held left it.0 ≡ b → filter (λ e. is_held left e.0) whole ≡ mapped description (cond b o.files (filter (λ e. not (e.0 == it.0)) o.files))
      by true e = kept_held e
      by false e = dropped e ∙ sym (filter-map description (λ k. not (k == it.0)) o.files)

  pub closed_file : (d : ℕ) (f : OpenFile) → find nat_cmp d (closed o fd it.0).files ≡ Some f → find nat_cmp d o.files ≡ Some f
  closed_file d f e = by (is_held left it.0) e
    where
      passed : (b : Bool) → cond b (find nat_cmp d o.files) None ≡ Some f → find nat_cmp d o.files ≡ Some f
      passed true e = e
      passed false e = absurd (cc)

      by : (b : Bool) → find nat_cmp d (cond b o.files (filter (λ e. not (e.0 == it.0)) o.files)) ≡ Some f → find nat_cmp d o.files ≡ Some f
      by true e = e
      by false e = passed (not (d == it.0)) (sym (find_without it.0 d o.files) ∙ e)

pub keep_all : {A : Type 0} (f : ℕ → Bool) (es : List (ℕ × A)) → ((n : ℕ) (x : A) → find nat_cmp n es ≡ Some x → f n ≡ true) → filter (λ e. f e.0) es ≡ es
keep_all f [] h = refl
keep_all {A} f (x ∷ es) h =
    let first : f x.0 ≡ true = h x.0 x.1 (ap (λ b. cond b (Some x.1) (find nat_cmp x.0 es)) (number_tied x.0)) in
    let later : (n : ℕ) (y : A) → find nat_cmp n es ≡ Some y → f n ≡ true = λ n y e. elim (decide_number n x.0) [
      | inl is ↦ ap f is ∙ first
      | inr d ↦ h n y (ap (λ b. cond b (Some x.1) (find nat_cmp n es)) (number_apart n x.0 d) ∙ e)
    ] in
    ap (λ b. cond b (x ∷ filter (λ e. f e.0) es) (filter (λ e. f e.0) es)) first ∙ ap (λ xs. x ∷ xs) (keep_all f es later)

-- a tree whose nodes without a name are open loses none
pub swept_whole : (t : Tree) (desk : Desk) → ((n : ℕ) (node : Node) → node_of t n ≡ Some node → is_named t n ≡ false → is_open desk n ≡ true) → (swept (record { tree = t; desk = desk })).tree ≡ t
swept_whole t desk kept =
    let all = keep_all (λ n. is_named t n || is_open desk n) t.nodes (λ n x e. by n x e (is_named t n) refl) in
    λ i. record { names = t.names; nodes = all i; next = t.next }
  where
    by : (n : ℕ) (x : Node) → node_of t n ≡ Some x → (b : Bool) → is_named t n ≡ b → (b || is_open desk n) ≡ true
    by n x e true f = refl
    by n x e false f = kept n x e f

abbrev pub close_from : World → ℕ → Option (ℕ × Description) → Result After Errno
close_from w fd x = or_else x EBADF >>= λ it. Ok (record { world = swept (record { tree = w.tree; desk = closed_desk w.desk fd }); reply = replies.Done })

pub new_holds : (t : Tree) (o : Opens) (place : Place) (node : Node) → IsTree t → number_at t place ≡ None → Holds o t → Holds o (with_new t place node)
new_holds t o place node tree free holds = record {
  desk = holds.desk;
  known = λ d f is.
      let knows = holds.known d f is in
      let lt = (tree.numbers f.it.node knows.node knows.there).1 in
      new_knows t place node f free (λ e. omega arith) knows;
  kept = λ n x there none. elim (decide_number n t.next) [
    | inl is ↦ absurd (let e : true ≡ false = sym (some_found place_cmp (put place_cmp place t.next t.names) place n (place_put place t.next t.names ∙ ap Some (sym is))) ∙ none in cc)
    | inr apart ↦ holds.kept n x (sym (number_other n t.next node t.nodes apart) ∙ there) (sym (named_put place t.next n t.names (let d = apart in grind (arith, nat_tests)) free) ∙ none)
  ];
}

-- ---- nothing is open

pub nothing_holds : (t : Tree) → ((n : ℕ) (node : Node) → node_of t n ≡ Some node → is_named t n ≡ true) → Holds no_files t
nothing_holds t all = record { desk = empty_is; known = λ d f is. absurd (cc); kept = λ n node there none. absurd (let e : true ≡ false = sym (all n node there) ∙ none in cc) }
