-- The places that are left to tell, the next one at the end.
use Rattle.std.proofs.Common.{◌≡◌, sym, ◌∙◌, ap, subst, List, [], ◌∷◌, ◌++◌, map, reverse, append_assoc}
use Rattle.std.proofs.lemmas.List.{reverse-append, reverse-reverse, append-nil, map-append}
use Rattle.kv_device.specs.Objects.{Objects}
use Rattle.kfs_path.specs.declared.call.TreeItem.{TreeItem}
use Rattle.kfs_core.specs.declared.tree.Pending.{Pending}
use Rattle.kfs_core.specs.Flat.{inode_in}
use Rattle.kfs_core.specs.Listing.{At, at_of, item_at, right_below, Lists, lists_none, lists_some, ListsAll}

-- what is told so far, and what is left, lead to all
abbrev pub Leads : Objects → List TreeItem → List Pending → Type 0
Leads m told todo = (items : List TreeItem) → Lists m (reverse (map at_of todo)) items → ListsAll m (told ++ items)

pub leads_end : (m : Objects) (told : List TreeItem) (todo : List Pending) → todo ≡ [] → Leads m told todo → ListsAll m told
leads_end m told todo none h = subst (ListsAll m) (append-nil told) (h [] (subst (λ (x : List Pending). Lists m (reverse (map at_of x)) []) (sym none) lists_none))

pub leads_on : (m : Objects) (told new : List TreeItem) (before rest after : List Pending) (next : Pending) (item : TreeItem) → before ≡ rest ++ next ∷ [] → map at_of after ≡ map at_of rest ++ reverse (right_below m (at_of next))
    → item ≡ item_at next.path (inode_in m next.node) → new ≡ told ++ item ∷ [] → Leads m told before → Leads m new after
leads_on m told new before rest after next item popped pushed is more h items lists =
    let below = right_below m (at_of next) in
    let left : reverse (map at_of after) ≡ below ++ reverse (map at_of rest) = ap reverse pushed ∙ reverse-append (map at_of rest) (reverse below) ∙ ap (λ (xs : List At). xs ++ reverse (map at_of rest)) (reverse-reverse below) in
    let was : reverse (map at_of before) ≡ at_of next ∷ reverse (map at_of rest) = ap (λ (x : List Pending). reverse (map at_of x)) popped ∙ ap reverse (map-append at_of rest (next ∷ [])) ∙ reverse-append (map at_of rest) (at_of next ∷ []) in
    let here = lists_some (at_of next) (reverse (map at_of rest)) items (subst (λ (xs : List At). Lists m xs items) left lists) in
    let all = h (item_at next.path (inode_in m next.node) ∷ items) (subst (λ (xs : List At). Lists m xs (item_at next.path (inode_in m next.node) ∷ items)) (sym was) here) in
    subst (ListsAll m) (ap (λ (x : TreeItem). told ++ x ∷ items) (sym is) ∙ sym (append_assoc told (item ∷ []) items) ∙ ap (λ (xs : List TreeItem). xs ++ items) (sym more)) all
