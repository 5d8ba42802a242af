-- The places of nodes, put in one by one from the root on as long as an entry is left whose parent has a place.
use Rattle.std.proofs.Common.{◌≡◌, ℕ, zero, suc, ◌≤◌, ◌⊎◌, inl, inr, cond, T, refl, sym, ◌∙◌, ap, subst, arith, List, [], ◌∷◌, ◌++◌, length, Option, Some, None}
use Rattle.std.specs.FinMap as objects
use Rattle.std.specs.FinMap.{find, put, is_sorted}
use Rattle.std.specs.FinMap.Entries.{is_sorted-put}
use Rattle.std.proofs.lemmas.List.{same_from_push}
use Rattle.std.proofs.lemmas.Option.{same_Some}
use Rattle.kv_device.specs.Objects.{Objects}
use Rattle.kfs_objects.specs.Keys.{entry_key}
use Rattle.kfs_objects.specs.Records.{read_entry}
use Rattle.kfs_model.specs.Tree.{Place, Name, place_cmp}
use Rattle.kfs_shows.proofs.Lookups.{places_total, same_places, decide_place, apart_test, place_put, place_other}
use Rattle.kfs_shows.proofs.Counting.{place_of, place_found, place_none}
use Rattle.kfs_shows.proofs.Fresh.{not_root}
use Rattle.kfs_damages.specs.Damages.{IsEntry, IsReached, is_root, is_below}

-- an entry that reads
pub record Link (m : Objects) : Type 0 where
  pub parent : ℕ
  pub name : Name
  pub value : List ℕ
  pub node : ℕ
  pub entry : IsEntry m parent name value
  pub reads : read_entry value ≡ Some node

-- an entry is among these
abbrev pub Waits : {m : Objects} → List (Link m) → ℕ → Name → Type 0
Waits [] p x = ⊥
Waits (l ∷ ls) p x = ((l.parent ≡ p) × (l.name ≡ x)) ⊎ Waits ls p x

abbrev pub Placed : List (Place × ℕ) → ℕ → Type 0
Placed names j = (q : Place) × (find place_cmp q names ≡ Some j)

-- the entry that put a place
pub record Comes (m : Objects) (names : List (Place × ℕ)) (q : Place) (x : Name) (j : ℕ) : Type 0 where
  pub parent : ℕ
  pub at : find place_cmp q names ≡ Some parent
  pub value : List ℕ
  pub entry : IsEntry m parent x value
  pub reads : read_entry value ≡ Some j

-- the node that an entry names has its place
pub record Lies (names : List (Place × ℕ)) (p : ℕ) (x : Name) : Type 0 where
  pub place : Place
  pub at : find place_cmp place names ≡ Some p
  pub node : ℕ
  pub here : find place_cmp (place ++ x ∷ []) names ≡ Some node

-- the places so far, and the entries that are left
pub record Grown (m : Objects) (names : List (Place × ℕ)) (links : List (Link m)) : Type 0 where
  pub sorted : T (is_sorted place_cmp names)
  pub root : find place_cmp [] names ≡ Some 1
  pub from : (q : Place) (x : Name) (j : ℕ) → find place_cmp (q ++ x ∷ []) names ≡ Some j → Comes m names q x j
  pub rest : (p : ℕ) (x : Name) (value : List ℕ) → IsEntry m p x value → Waits links p x ⊎ Lies names p x

-- no entry that is left has a parent with a place
abbrev pub Stuck : {m : Objects} → List (Place × ℕ) → List (Link m) → Type 0
Stuck names links = (p : ℕ) (x : Name) → Waits links p x → (q : Place) → find place_cmp q names ≡ Some p → ⊥

-- an entry whose parent has a place, and the others
record Picked (m : Objects) (names : List (Place × ℕ)) (links : List (Link m)) : Type 0 where
  link : Link m
  others : List (Link m)
  place : Place
  at : find place_cmp place names ≡ Some link.parent
  fewer : length links ≡ suc (length others)
  parts : (p : ℕ) (x : Name) → Waits links p x → Waits others p x ⊎ ((link.parent ≡ p) × (link.name ≡ x))

pick : (m : Objects) (names : List (Place × ℕ)) (links : List (Link m)) → T (is_sorted place_cmp names) → Picked m names links ⊎ Stuck names links
pick m names [] sorted = inr (λ p x waits q e. waits)
pick m names (l ∷ ls) sorted = by (place_of names l.parent) refl (pick m names ls sorted)
  where
    turned : (p : ℕ) (x : Name) → Waits (l ∷ ls) p x → Waits ls p x ⊎ ((l.parent ≡ p) × (l.name ≡ x))
    turned p x (inl is) = inr is
    turned p x (inr waits) = inl waits

    later : (others : List (Link m)) (link : Link m) → ((p : ℕ) (x : Name) → Waits ls p x → Waits others p x ⊎ ((link.parent ≡ p) × (link.name ≡ x))) → (p : ℕ) (x : Name) → Waits (l ∷ ls) p x → Waits (l ∷ others) p x ⊎ ((link.parent ≡ p) × (link.name ≡ x))
    later others link parts p x (inl is) = inl (inl is)
    later others link parts p x (inr waits) = elim (parts p x waits) [ inl w ↦ inl (inr w) | inr is ↦ inr is ]

    stuck : place_of names l.parent ≡ None → Stuck names ls → (p : ℕ) (x : Name) → Waits (l ∷ ls) p x → (q : Place) → find place_cmp q names ≡ Some p → ⊥
    stuck f none p x (inl is) q e = place_none names l.parent q f (e ∙ ap Some (sym is.0))
    stuck f none p x (inr waits) q e = none p x waits q e

    by : (o : Option Place) → place_of names l.parent ≡ o → Picked m names ls ⊎ Stuck names ls → Picked m names (l ∷ ls) ⊎ Stuck names (l ∷ ls)
    by (Some q) f rest = inl (record { link = l; others = ls; place = q; at = place_found names l.parent q sorted f; fewer = refl; parts = turned })
    by None f (inl p) = inl (record { link = p.link; others = l ∷ p.others; place = p.place; at = p.at; fewer = ap (λ n. suc n) p.fewer; parts = later p.others p.link p.parts })
    by None f (inr none) = inr (stuck f none)

module _ (m : Objects) (names : List (Place × ℕ)) (links : List (Link m)) (g : Grown m names links) (p : Picked m names links) where
  abbrev new : Place
  new = p.place ++ p.link.name ∷ []

  abbrev more : List (Place × ℕ)
  more = put place_cmp new p.link.node names

  -- two entries under one name in one node name the same
  same_node : (q : ℕ) (x : Name) (v : List ℕ) (j : ℕ) → q ≡ p.link.parent → x ≡ p.link.name → IsEntry m q x v → read_entry v ≡ Some j → j ≡ p.link.node
  same_node q x v j e f entry reads =
      let same : v ≡ p.link.value = same_Some _ _ (sym entry.there ∙ (λ i. objects.get m (entry_key (e i) (f i))) ∙ p.link.entry.there) in
      same_Some _ _ (sym reads ∙ ap read_entry same ∙ p.link.reads)

  -- what has a place keeps it
  keeps : (r : Place) (j : ℕ) → find place_cmp r names ≡ Some j → find place_cmp r more ≡ Some j
  keeps r j e = elim (decide_place r new) [
    | inr d ↦ place_other r new p.link.node names d ∙ e
    | inl same ↦
        let c = g.from p.place p.link.name j (sym (ap (λ k. find place_cmp k names) same) ∙ e) in
        ap (λ k. find place_cmp k more) same ∙ place_put new p.link.node names
        ∙ ap Some (sym (same_node c.parent p.link.name c.value j (same_Some _ _ (sym c.at ∙ p.at)) refl c.entry c.reads))
  ]

  comes : (q : Place) (x : Name) (j : ℕ) → find place_cmp (q ++ x ∷ []) more ≡ Some j → Comes m more q x j
  comes q x j e = elim (decide_place (q ++ x ∷ []) new) [
    | inr d ↦
        let c = g.from q x j (sym (place_other (q ++ x ∷ []) new p.link.node names d) ∙ e) in
        record { parent = c.parent; at = keeps q c.parent c.at; value = c.value; entry = c.entry; reads = c.reads }
    | inl same ↦
        let ends = same_from_push q p.place x p.link.name same in
        let is : p.link.node ≡ j = same_Some _ _ (sym (place_put new p.link.node names) ∙ sym (ap (λ k. find place_cmp k more) same) ∙ e) in
        record {
          parent = p.link.parent;
          at = keeps q p.link.parent (ap (λ k. find place_cmp k names) ends.0 ∙ p.at);
          value = p.link.value;
          entry = subst (λ y. IsEntry m p.link.parent y p.link.value) (sym ends.1) p.link.entry;
          reads = p.link.reads ∙ ap Some is;
        }
  ]

  left : (q : ℕ) (x : Name) (value : List ℕ) → IsEntry m q x value → Waits p.others q x ⊎ Lies more q x
  left q x value entry = by (g.rest q x value entry)
    where
      stays : Lies names q x → Lies more q x
      stays l = record { place = l.place; at = keeps l.place q l.at; node = l.node; here = keeps (l.place ++ x ∷ []) l.node l.here }

      put_now : (p.link.parent ≡ q) → (p.link.name ≡ x) → Lies more q x
      put_now e f = record {
        place = p.place;
        at = keeps p.place q (p.at ∙ ap Some e);
        node = p.link.node;
        here = ap (λ y. find place_cmp (p.place ++ y ∷ []) more) (sym f) ∙ place_put new p.link.node names;
      }

      by : Waits links q x ⊎ Lies names q x → Waits p.others q x ⊎ Lies more q x
      by (inr l) = inr (stays l)
      by (inl waits) = elim (p.parts q x waits) [ inl w ↦ inl w | inr is ↦ inr (put_now is.0 is.1) ]

  further : Grown m more p.others
  further = record {
    sorted = is_sorted-put place_cmp places_total new p.link.node names g.sorted;
    root = keeps [] 1 g.root;
    from = comes;
    rest = left;
  }

-- the places when no more can be put
pub record Full (m : Objects) : Type 0 where
  pub names : List (Place × ℕ)
  pub links : List (Link m)
  pub grown : Grown m names links
  pub stuck : Stuck names links

grow : (m : Objects) (fuel : ℕ) (names : List (Place × ℕ)) (links : List (Link m)) → length links ≤ fuel → Grown m names links → Full m
grow m zero names [] le g = record { names = names; links = []; grown = g; stuck = λ p x waits q e. waits }
grow m zero names (l ∷ ls) le g = absurd (omega arith)
grow m (suc fuel) names links le g = elim (pick m names links g.sorted) [
  | inr stuck ↦ record { names = names; links = links; grown = g; stuck = stuck }
  | inl p ↦ grow m fuel (put place_cmp (p.place ++ p.link.name ∷ []) p.link.node names) p.others (let f = p.fewer in omega arith) (further m names links g p)
]

abbrev root_names : List (Place × ℕ)
root_names = ([], 1) ∷ []

none_below : (q : Place) (x : Name) → find place_cmp (q ++ x ∷ []) root_names ≡ None
none_below q x = ap (λ b. cond b (Some 1) None) (apart_test places_total same_places (q ++ x ∷ []) [] (not_root q x))

-- all places, from a list of all entries
pub full : (m : Objects) (links : List (Link m)) → ((p : ℕ) (x : Name) (value : List ℕ) → IsEntry m p x value → Waits links p x) → Full m
full m links all = grow m (length links) root_names links (omega arith) (record {
  sorted = tt;
  root = refl;
  from = λ q x j e. absurd (let bad : None ≡ Some j = sym (none_below q x) ∙ e in cc);
  rest = λ p x value entry. inl (all p x value entry);
})

module _ (m : Objects) (f : Full m) where
  -- where an entry's parent has a place, what it names lies below
  pub lies_below : (p : ℕ) (x : Name) (value : List ℕ) (j : ℕ) → IsEntry m p x value → read_entry value ≡ Some j → (q : Place) → find place_cmp q f.names ≡ Some p → Placed f.names j
  lies_below p x value j entry reads q e = by (f.grown.rest p x value entry)
    where
      by : Waits f.links p x ⊎ Lies f.names p x → Placed f.names j
      by (inl waits) = absurd (f.stuck p x waits q e)
      by (inr l) =
          let c = f.grown.from l.place x l.node l.here in
          let up : c.parent ≡ p = same_Some _ _ (sym c.at ∙ l.at) in
          let same : c.value ≡ value = same_Some _ _ (sym c.entry.there ∙ ap (λ k. objects.get m (entry_key k x)) up ∙ entry.there) in
          (l.place ++ x ∷ [], l.here ∙ sym c.reads ∙ ap read_entry same ∙ reads)

  -- what is reached has a place
  pub reached_placed : (j : ℕ) → IsReached m j → Placed f.names j
  reached_placed _ is_root = ([], f.grown.root)
  reached_placed _ (is_below parent name value n reached entry reads) = let up = reached_placed parent reached in lies_below parent name value n entry reads up.0 up.1
