use Rattle.std.proofs.Common.{◌≡◌, ◌++◌, ◌∷◌, [], ◌∙◌, ap, sym, ℕ, List, map, rules}
use Rattle.std.proofs.lemmas.List.{append_assoc}
use Rattle.kfs_objects.specs.Keys.{be64}
use Rattle.kfs_posix.specs.declared.open_files.OpenFile.{OpenFile}
use Rattle.kfs_posix.proofs.open_files.OpenFiles.open_nodes.Goals as goal

-- one of those that are left is added at the end
one : (nodes new : List (List ℕ)) (left rest : List (ℕ × OpenFile)) (all : List (List ℕ)) (k : ℕ) (file : OpenFile) (name : List ℕ) → new ≡ nodes ++ name ∷ [] → name ≡ be64 file.it.node → left ≡ (k, file) ∷ rest
    → nodes ++ map (λ (e : ℕ × OpenFile). be64 e.1.it.node) left ≡ all → new ++ map (λ (e : ℕ × OpenFile). be64 e.1.it.node) rest ≡ all
one nodes new left rest all k file name added is at before =
    ap (λ x. x ++ map (λ (e : ℕ × OpenFile). be64 e.1.it.node) rest) (added ∙ ap (λ y. nodes ++ y ∷ []) is) ∙ append_assoc nodes (be64 file.it.node ∷ []) (map (λ (e : ℕ × OpenFile). be64 e.1.it.node) rest)
    ∙ ap (λ x. nodes ++ map (λ (e : ℕ × OpenFile). be64 e.1.it.node) x) (sym at) ∙ before

pub loop-file-preserved : goal.loop-file-preserved
unfolding be64
loop-file-preserved c = (tt, tt, one _ _ _ _ _ _ c.in-Some.file.now c.in_ok-new.field-0 c.in_ok-push.ensures.ok (search rules) c.in-Some.ensures.steps c.loop-file.invariant.2)
