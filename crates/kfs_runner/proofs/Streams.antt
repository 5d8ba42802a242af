-- What a source gives and a sink takes, call by call.
use Rattle.std.proofs.lemmas.List.{take-append-le, take-append-drop, take_rest, drop-drop}
use Rattle.std.proofs.Common.{◌<◌, ◌≤◌, arith, length-append, length-take, take_all, ◌≡◌, ◌+◌, ◌-◌, ℕ, length, List, [], ◌++◌, Option, Some, None, refl, sym, ◌∙◌, ap, subst, append_assoc, append-nil, take, drop}
use Rattle.kfs_runner.specs.Outside.{Gives, GivesAll, Takes, IsAtEnd}
use Rattle.kfs_runner.specs.Reading.{script_limit, GivesTooMuch}

-- nothing was given yet
pub Gives-nothing : (left : Option (List ℕ)) → Gives left [] left
Gives-nothing (Some all) = (all, refl, refl)
Gives-nothing None = tt

gives_on : (all first second : List ℕ) (b c : Option (List ℕ)) (rest : List ℕ) → b ≡ Some rest → all ≡ first ++ rest → Gives b second c → Gives (Some all) (first ++ second) c
gives_on all first second b c rest is split more =
    let next = subst (λ left. Gives left second c) is more in
    (next.0, next.1, split ∙ ap (λ bytes. first ++ bytes) next.2 ∙ sym (append_assoc first second next.0))

-- what is given later stands behind what was given before
pub Gives-more : (a : Option (List ℕ)) (first : List ℕ) (b : Option (List ℕ)) (second : List ℕ) (c : Option (List ℕ)) → Gives a first b → Gives b second c → Gives a (first ++ second) c
Gives-more (Some all) first b second c given more = gives_on all first second b c given.0 given.1 given.2 more
Gives-more None first b second c given more = tt

-- at the end of a source all of it was given
gives_all : (all text rest : List ℕ) (b : Option (List ℕ)) (piece : List ℕ) (c : Option (List ℕ)) (n : ℕ) → b ≡ Some rest → all ≡ text ++ rest → Gives b (take n piece) c → IsAtEnd b → n ≡ 0 → GivesAll (Some all) text c
gives_all all text rest b piece c n is split more end none =
    let empty : rest ≡ [] = subst IsAtEnd is end in
    let next = subst (λ k. Gives (Some rest) (take k piece) c) none (subst (λ left. Gives left (take n piece) c) is more) in
    (split ∙ ap (λ bytes. text ++ bytes) empty ∙ append-nil text, next.1 ∙ ap Some (sym next.2 ∙ empty))

pub Gives-all : (a : Option (List ℕ)) (text : List ℕ) (b : Option (List ℕ)) (piece : List ℕ) (c : Option (List ℕ)) (n : ℕ) → Gives a text b → Gives b (take n piece) c → IsAtEnd b → n ≡ 0 → GivesAll a text c
Gives-all (Some all) text b piece c n given more end none = gives_all all text given.0 b piece c n given.1 given.2 more end none
Gives-all None text b piece c n given more end none = tt

-- more was given than a script may have
pub gives_too_much : (a : Option (List ℕ)) (text : List ℕ) (b : Option (List ℕ)) (piece : List ℕ) (c : Option (List ℕ)) (n : ℕ) → Gives a text b → Gives b (take n piece) c → length text ≤ script_limit → n ≤ length piece → script_limit - length text < n → GivesTooMuch a c
gives_too_much a text b piece c n given more short within long =
    (text ++ take n piece, Gives-more a text b (take n piece) c given more, simp (length-append, length-take) (omega arith))

pub Takes-nothing : (got : Option (List ℕ)) → Takes got [] got
Takes-nothing (Some got) = ap Some (sym (append-nil got))
Takes-nothing None = tt

takes_on : (got first second : List ℕ) (b c : Option (List ℕ)) → b ≡ Some (got ++ first) → Takes b second c → Takes (Some got) (first ++ second) c
takes_on got first second b c is more =
    subst (λ bytes. Takes bytes second c) is more ∙ ap Some (append_assoc got first second)

-- what is taken later stands behind what was taken before
pub Takes-more : (a : Option (List ℕ)) (first : List ℕ) (b : Option (List ℕ)) (second : List ℕ) (c : Option (List ℕ)) → Takes a first b → Takes b second c → Takes a (first ++ second) c
Takes-more (Some got) first b second c taken more = takes_on got first second b c taken more
Takes-more None first b second c taken more = tt

-- a text goes on behind its first part
pub split_on : (text done rest : List ℕ) (n : ℕ) → text ≡ done ++ rest → text ≡ (done ++ take n rest) ++ take (length rest - n) (drop n rest)
split_on text done rest n is =
    is ∙ ap (λ bytes. done ++ bytes) (sym (take-append-drop n rest) ∙ ap (λ bytes. take n rest ++ bytes) (sym (take_rest rest n))) ∙ sym (append_assoc done (take n rest) (take (length rest - n) (drop n rest)))

-- what is given of the middle of a text is what follows a place there
pub gives_middle : (all piece : List ℕ) (place n : ℕ) → take n piece ≡ take n (take (length all - place) (drop place all)) → Gives (Some (drop place all)) (take n piece) (Some (drop (place + n) all))
gives_middle all piece place n front =
    (drop (place + n) all, refl, sym (take-append-drop n (drop place all)) ∙ ap (λ bytes. bytes ++ drop n (drop place all)) (sym (front ∙ ap (λ bytes. take n bytes) (take_rest all place))) ∙ ap (λ bytes. take n piece ++ bytes) (drop-drop n place all))

-- a buffer that was filled is what it was filled with
filled : (into items : List ℕ) (len : ℕ) → length into ≡ len → take len (into ++ drop (length into) items) ≡ into
filled into items len is =
    let within : len ≤ length into = omega arith in
    let all : length into ≤ len = omega arith in
    take-append-le len into (drop (length into) items) within ∙ take_all len into all

-- what was appended is what was given
pub appended : (new text piece into items : List ℕ) (n len : ℕ) → new ≡ text ++ take n piece → piece ≡ take len (into ++ drop (length into) items) → length into ≡ len → new ≡ text ++ take n into
appended new text piece into items n len is same size = is ∙ ap (λ bytes. text ++ take n bytes) (same ∙ filled into items len size)

pub length_appended : (new text into : List ℕ) (n : ℕ) → new ≡ text ++ take n into → n ≤ length into → length new ≡ length text + n
length_appended new text into n is within =
    ap length is ∙ simp (length-append, length-take) (omega arith)
