-- Entries that are fed one after the other.
use Rattle.std.proofs.Common.{◌≡◌, ◌∙◌, ◌<◌, true, false, not, List, [], ◌∷◌, ◌++◌, length, Some, None, refl, sym, ap, subst, arith, append_assoc}
use Rattle.std.specs.Prelude.{slice_get, drop}
use Rattle.std.proofs.lemmas.List.{append-nil}
use Rattle.std.proofs.lemmas.List.Elements.{filter-append}
use Rattle.kssd_entry.specs.declared.entry.Entry.{Entry}
use Rattle.kssd_model.specs.Rising.{is_rising, is_gone}
use Rattle.kssd_run.specs.declared.writer.RunWriter.{RunWriter}
use Rattle.kssd_run.specs.Writing.{Writes, KeepsPlace, is_closed, page_waits}
use Rattle.kssd_run.proofs.GoingOn.{rising_first}
use Rattle.kssd_levels.specs.declared.kind.JobKind.{JobKind}
use Rattle.kssd_levels.specs.declared.kind.JobKind.TheVariants.{Flush, Zero, One, Collect}
use Rattle.kssd_levels.specs.Levels.{kept_by}
use Rattle.kssd_compact.specs.Feeding.{Adds, Takes, Feeds}

-- what was fed so far
pub record HasFed (kind : JobKind) (before : List Entry) (old : RunWriter) (after : List Entry) (new : RunWriter) : Type 0 where
  pub took : List Entry
  pub split : kept_by kind before ≡ took ++ kept_by kind after
  pub adds : Adds old took new
  pub place : KeepsPlace old new
  pub open_ : is_closed new ≡ false

pub same_place : (writer : RunWriter) → KeepsPlace writer writer
same_place writer = record { level = refl; number = refl; blocks = refl; pages = refl; begun = refl }

pub place_then : (a b c : RunWriter) → KeepsPlace a b → KeepsPlace b c → KeepsPlace a c
place_then a b c ab bc = record { level = bc.level ∙ ab.level; number = bc.number ∙ ab.number; blocks = bc.blocks ∙ ab.blocks; pages = bc.pages ∙ ab.pages; begun = bc.begun ∙ ab.begun }

pub adds_nothing : (writer : RunWriter) → Adds writer [] writer
adds_nothing writer image fed h rising = subst (Writes writer image) (sym (append-nil fed)) h

pub adds_then : (a b c : RunWriter) (first more : List Entry) → Adds a first b → Adds b more c → Adds a (first ++ more) c
adds_then a b c first more ab bc image fed h rising =
    let e = append_assoc fed first more in
    let all = ap is_rising e ∙ rising in
    subst (Writes c image) e (bc image (fed ++ first) (ab image fed h (rising_first (fed ++ first) more all)) all)

kept_append : (kind : JobKind) (xs ys : List Entry) → kept_by kind (xs ++ ys) ≡ kept_by kind xs ++ kept_by kind ys
kept_append Flush xs ys = refl
kept_append Zero xs ys = refl
kept_append One xs ys = filter-append (λ entry. not (is_gone entry)) xs ys
kept_append Collect xs ys = refl

pub nothing_fed : (kind : JobKind) (before : List Entry) (writer : RunWriter) → is_closed writer ≡ false → HasFed kind before writer before writer
nothing_fed kind before writer open_ = record { took = []; split = refl; adds = adds_nothing writer; place = same_place writer; open_ = open_ }

-- one entry more
pub one_fed : (kind : JobKind) (before : List Entry) (old : RunWriter) (after : List Entry) (now new : RunWriter) (e : Entry) (later : List Entry) → HasFed kind before old after now → after ≡ e ∷ later → Takes kind e now new → HasFed kind before old later new
one_fed kind before old after now new e later h is takes = record {
  took = h.took ++ kept_by kind (e ∷ []);
  split =
      h.split
      ∙ ap (λ (xs : List Entry). h.took ++ kept_by kind xs) is
      ∙ ap (λ (xs : List Entry). h.took ++ xs) (kept_append kind (e ∷ []) later)
      ∙ sym (append_assoc h.took (kept_by kind (e ∷ [])) (kept_by kind later));
  adds = adds_then old now new h.took (kept_by kind (e ∷ [])) h.adds takes.adds;
  place = place_then old now new h.place takes.place;
  open_ = takes.open_;
}

pub first_is : (rest : List Entry) (e : Entry) → Some e ≡ slice_get rest 0 → rest ≡ e ∷ drop 1 rest
first_is [] e h = absurd cc
first_is (x ∷ rest) e h = let f : e ≡ x = cc in ap (λ (y : Entry). y ∷ rest) (sym f)

pub none_is : (rest : List Entry) → None ≡ slice_get rest 0 → rest ≡ []
none_is [] h = refl
none_is (x ∷ rest) h = absurd cc

pub fewer_left : (before after : List Entry) (e : Entry) → before ≡ e ∷ drop 1 before → after ≡ drop 1 before → length after < length before
fewer_left before after e is next =
    let p = ap length is in
    let q = ap length next in
    omega (arith, p, q)

-- at the end
pub feeds_all : (kind : JobKind) (before : List Entry) (old : RunWriter) (after : List Entry) (new : RunWriter) → HasFed kind before old after new → after ≡ [] → page_waits new ≡ false → Feeds kind before old after true new
feeds_all kind before old after new h none waits = record {
  took = h.took;
  split = h.split;
  adds = h.adds;
  place = h.place;
  open_ = h.open_;
  waits = λ e. absurd cc;
  none = λ e. (none, waits);
}

-- a page waits
pub feeds_page : (kind : JobKind) (before : List Entry) (old : RunWriter) (after : List Entry) (new : RunWriter) → HasFed kind before old after new → page_waits new ≡ true → Feeds kind before old after false new
feeds_page kind before old after new h waits = record {
  took = h.took;
  split = h.split;
  adds = h.adds;
  place = h.place;
  open_ = h.open_;
  waits = λ e. waits;
  none = λ e. absurd cc;
}
