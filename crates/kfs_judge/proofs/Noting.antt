-- Tables of rows, row by row.
use Rattle.std.proofs.Common.{◌≡◌, ℕ, ◌+◌, ◌<◌, ◌≤◌, ◌&&◌, ◌||◌, true, false, Bool, refl, sym, ◌∙◌, ap, subst, List, [], ◌∷◌, ◌++◌, length, take, get_or, Option, Some, None}
use Rattle.std.specs.List.{list_any}
use Rattle.std.proofs.lemmas.List.{take_more, take_all}
use Rattle.kfs_judge.specs.declared.row.Row.{Row}
use Rattle.kfs_judge.specs.declared.tables.Tables.{Tables}
use Rattle.kfs_judge.specs.Tables.{AreTables, Notes, or_else, recent, is_twice, inode_row, orphan_row, named_row}

or_assoc : {A : Type 0} (a b c : Option A) → or_else (or_else a b) c ≡ or_else a (or_else b c)
or_assoc None b c = refl
or_assoc (Some a) b c = refl

or_none : {A : Type 0} (a : Option A) → or_else a None ≡ a
or_none None = refl
or_none (Some a) = refl

pub recent_push : {A : Type 0} (f : Row → Option A) (xs : List Row) (row : Row) → recent f (xs ++ row ∷ []) ≡ or_else (f row) (recent f xs)
recent_push f [] row = sym (or_none (f row))
recent_push f (x ∷ xs) row = ap (λ o. or_else o (f x)) (recent_push f xs row) ∙ or_assoc (f row) (recent f xs) (f x)

any_push : (p : Row → Bool) (xs : List Row) (row : Row) → list_any p (xs ++ row ∷ []) ≡ (p row || list_any p xs)
any_push p [] row = refl
any_push p (x ∷ xs) row = ap (λ b. p x || b) (any_push p xs row) ∙ swap (p x) (p row) (list_any p xs)
  where
    swap : (a b c : Bool) → (a || (b || c)) ≡ (b || (a || c))
    swap true true c = refl
    swap true false c = refl
    swap false true c = refl
    swap false false c = refl

twice_push : (p : Row → Bool) (xs : List Row) (row : Row) → is_twice p (xs ++ row ∷ []) ≡ ((p row && list_any p xs) || is_twice p xs)
twice_push p [] row = refl
twice_push p (x ∷ xs) row = (λ i. (p x && any_push p xs row i) || twice_push p xs row i) ∙ swap (p x) (p row) (list_any p xs) (is_twice p xs)
  where
    swap : (a b c d : Bool) → ((a && (b || c)) || ((b && c) || d)) ≡ ((b && (a || c)) || ((a && c) || d))
    swap true true true d = refl
    swap true true false d = refl
    swap true false true d = refl
    swap true false false d = refl
    swap false true true d = refl
    swap false true false d = refl
    swap false false true d = refl
    swap false false false d = refl

tables_push : (xs : List Row) (row : Row) (old new : Tables) → AreTables xs old → Notes old row new → AreTables (xs ++ row ∷ []) new
tables_push xs row old new h n = record {
  inodes = λ q. n.inodes q ∙ ap (or_else (inode_row q row)) (h.inodes q) ∙ sym (recent_push (inode_row q) xs row);
  orphans = λ q. n.orphans q ∙ ap (λ b. orphan_row q row || b) (h.orphans q) ∙ sym (any_push (orphan_row q) xs row);
  named = λ q. n.named q ∙ ap (λ b. named_row q row || b) (h.named q) ∙ sym (any_push (named_row q) xs row);
  twice = λ q. n.twice q ∙ (λ i. (named_row q row && h.named q i) || h.twice q i) ∙ sym (twice_push (named_row q) xs row);
}

-- one more row of a list
pub tables_more : (rows : List Row) (i : ℕ) (d : Row) (old new : Tables) → i < length rows → AreTables (take i rows) old → Notes old (get_or rows i d) new → AreTables (take (i + 1) rows) new
tables_more rows i d old new lt h n = subst (λ l. AreTables l new) (sym (take_more rows i d lt)) (tables_push (take i rows) (get_or rows i d) old new h n)
