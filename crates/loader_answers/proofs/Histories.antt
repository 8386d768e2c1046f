-- The histories of a session.
use Rattle.std.proofs.Common.{◌≡◌, ℕ, suc, ◌+◌, ◌-◌, List, [], ◌∷◌, ◌++◌, length, refl, sym, ◌∙◌, ap, subst, arith, length-append, append_assoc, take}
use Rattle.std.specs.FinMap as map_of
use Rattle.filetree.specs.Files.{Files}
use Rattle.functions.specs.Next.{next}
use Rattle.keys.specs.Leaves.{read}
use Rattle.keys.proofs.LeafReads.{leaf_stays, changes_read}
use Rattle.keys.specs.declared.key.Key.{Key}
use Rattle.node.specs.Graphs.{GraphView, IsTouched}
use Rattle.node.specs.Laws.{TouchKeepsLawful}
use Rattle.loader_answers.specs.State.{Edit, changes_of, changed_files, state_after_edit}
use Rattle.loader_answers.specs.Sessions.{SessionView, files_after, files_of, state_of, paths_of, Follows, IsHistory, IsConsistent, files_at, paths_at}

-- one more edit
pub after_more : (files : Files) (edits : List Edit) (edit : Edit) → files_after files (edits ++ edit ∷ []) ≡ changed_files edit (files_after files edits)
after_more files [] edit = refl
after_more files (e ∷ edits) edit = after_more (changed_files e files) edits edit

module _ (files : ℕ → Files) (paths : ℕ → List (List ℕ)) where
  front : (n : ℕ) (edits : List Edit) (edit : Edit) → Follows files paths n (edits ++ edit ∷ []) → Follows files paths n edits
  front n [] edit f = tt
  front n (e ∷ edits) edit f = (f.0, f.1, front (suc n) edits edit f.2)

  last : (n m : ℕ) (edits : List Edit) (edit : Edit) → m ≡ n + length edits → Follows files paths n (edits ++ edit ∷ []) → (files (suc m) ≡ changed_files edit (files m)) × (paths (suc m) ≡ paths_of edit)
  last n m [] edit e f =
      let h : n ≡ m = omega (arith, e) in
      let found : (files (suc n) ≡ changed_files edit (files n)) × (paths (suc n) ≡ paths_of edit) = (f.0, f.1) in
      subst (λ (u : ℕ). (files (suc u) ≡ changed_files edit (files u)) × (paths (suc u) ≡ paths_of edit)) h found
  last n m (x ∷ edits) edit e f = last (suc n) m edits edit (omega (arith, e)) f.2

  pub history_before : (began : ℕ) (edits : List Edit) (edit : Edit) → IsHistory files paths began (edits ++ edit ∷ []) → IsHistory files paths began edits
  history_before began edits edit h = record { start = h.start; follows = front began edits edit h.follows }

-- an edit changes no leaf that it does not touch
pub edit_reads : (files : Files) (edit : Edit) (k : Key) → (IsTouched (paths_of edit) k → ⊥) → read (changed_files edit files) k ≡ read files k
edit_reads files edit k n = changes_read files (changes_of edit) k n

-- one more edit leaves a session consistent
pub lawful_after : (began : ℕ) (edits : List Edit) (old new : GraphView) (edit : Edit) → IsConsistent (record { began = began; edits = edits; graph = old }) → new.version ≡ old.version + 1 → TouchKeepsLawful old new (paths_of edit)
    → IsConsistent (record { began = began; edits = edits ++ edit ∷ []; graph = new })
lawful_after began edits old new edit law v touch = record {
  version = omega (arith, v, law.version, length-append edits (edit ∷ []));
  lawful = λ files paths h.
      let l = last files paths began old.version edits edit law.version h.follows in
      let s : old.version + 1 ≡ suc old.version = omega arith in
      touch next (λ u. read (files u)) paths (law.lawful files paths (history_before files paths began edits edit h)) (ap paths s ∙ l.1)
      (λ k n. ap (λ m. read (files m) k) s ∙ ap (λ f. read f k) l.0 ∙ edit_reads (files old.version) edit k n)
      (λ u w k x e. leaf_stays (files u) (files w) k x e);
}

-- a session that has accepted one more edit
module _ (h : SessionView) (new : GraphView) (edits : List Edit) (edit : Edit) (is : edits ≡ h.edits ++ edit ∷ []) (version : new.version ≡ h.graph.version + 1) where
  pub accepted : (tree : Files) → tree ≡ changed_files edit (files_of h) → IsConsistent h → TouchKeepsLawful h.graph new (paths_of edit)
      → (tree ≡ files_of (record { began = h.began; edits = edits; graph = new })) × IsConsistent (record { began = h.began; edits = edits; graph = new })
  accepted tree t law touch = (
    t ∙ sym (after_more map_of.empty h.edits edit) ∙ ap (files_after map_of.empty) (sym is),
    subst (λ (es : List Edit). IsConsistent (record { began = h.began; edits = es; graph = new })) (sym is) (lawful_after h.began h.edits h.graph new edit law version touch),
  )

  pub accepted_state : state_of (record { began = h.began; edits = edits; graph = new }) ≡ state_after_edit edit (state_of h)
  accepted_state =
      let f : files_after map_of.empty edits ≡ changed_files edit (files_of h) = ap (files_after map_of.empty) is ∙ after_more map_of.empty h.edits edit in
      λ i. record { files = f i; version = version i }

-- the present files are the last of a history
last_of : (files : ℕ → Files) (paths : ℕ → List (List ℕ)) (n m : ℕ) (edits : List Edit) → m ≡ n + length edits → Follows files paths n edits → files m ≡ files_after (files n) edits
last_of files paths n m [] e f = ap files (omega (arith, e))
last_of files paths n m (edit ∷ edits) e f = last_of files paths (suc n) m edits (omega (arith, e)) f.2 ∙ ap (λ x. files_after x edits) f.0

pub last_files : (files : ℕ → Files) (paths : ℕ → List (List ℕ)) (h : SessionView) → h.graph.version ≡ h.began + length h.edits → IsHistory files paths h.began h.edits → files h.graph.version ≡ files_of h
last_files files paths h v history = last_of files paths h.began h.graph.version h.edits v history.follows ∙ ap (λ x. files_after x h.edits) history.start

-- each list of edits has a history
take_front : (xs ys : List Edit) → take (length xs) (xs ++ ys) ≡ xs
take_front [] ys = refl
take_front (x ∷ xs) ys = ap (λ r. x ∷ r) (take_front xs ys)

take_one : (xs : List Edit) (y : Edit) (ys : List Edit) → take (suc (length xs)) (xs ++ y ∷ ys) ≡ xs ++ y ∷ []
take_one [] y ys = refl
take_one (x ∷ xs) y ys = ap (λ r. x ∷ r) (take_one xs y ys)

path_there : (xs : List Edit) (y : Edit) (ys : List Edit) → paths_at (xs ++ y ∷ ys) (suc (length xs)) ≡ paths_of y
path_there [] y ys = refl
path_there (x ∷ xs) y ys = path_there xs y ys

module _ (files : ℕ → Files) (paths : ℕ → List (List ℕ)) (began : ℕ) (edits : List Edit)
    (files_are : (n m : ℕ) → n ≡ began + m → files n ≡ files_at edits m) (paths_are : (n m : ℕ) → n ≡ began + m → paths n ≡ paths_at edits m) where
  follow : (passed rest : List Edit) → edits ≡ passed ++ rest → (n : ℕ) → n ≡ began + length passed → Follows files paths n rest
  follow passed [] e n h = tt
  follow passed (x ∷ rest) e n h = (
    files_are (suc n) (suc (length passed)) (omega (arith, h)) ∙ ap (λ es. files_after map_of.empty (take (suc (length passed)) es)) e ∙ ap (files_after map_of.empty) (take_one passed x rest)
        ∙ after_more map_of.empty passed x
        ∙ ap (changed_files x) (sym (files_are n (length passed) h ∙ ap (λ es. files_after map_of.empty (take (length passed) es)) e ∙ ap (files_after map_of.empty) (take_front passed (x ∷ rest)))),
    paths_are (suc n) (suc (length passed)) (omega (arith, h)) ∙ ap (λ es. paths_at es (suc (length passed))) e ∙ path_there passed x rest,
    follow (passed ++ x ∷ []) rest (e ∙ sym (append_assoc passed (x ∷ []) rest)) (suc n) (omega (arith, h, length-append passed (x ∷ []))),
  )

  pub is_history : IsHistory files paths began edits
  is_history = record { start = files_are began 0 (omega arith); follows = follow [] edits refl began (omega arith) }

-- the history from version 0 on
pub history_of : (edits : List Edit) → IsHistory (files_at edits) (paths_at edits) 0 edits
history_of edits = is_history (files_at edits) (paths_at edits) 0 edits (λ n m e. ap (files_at edits) (omega (arith, e))) (λ n m e. ap (paths_at edits) (omega (arith, e)))

-- and from another
pub files_from : ℕ → List Edit → ℕ → Files
files_from began edits u = files_at edits (u - began)

pub paths_from : ℕ → List Edit → ℕ → List (List ℕ)
paths_from began edits u = paths_at edits (u - began)

pub history_from : (began : ℕ) (edits : List Edit) → IsHistory (files_from began edits) (paths_from began edits) began edits
unfolding files_from paths_from
history_from began edits = is_history (λ u. files_at edits (u - began)) (λ u. paths_at edits (u - began)) began edits (λ n m e. ap (files_at edits) (omega (arith, e))) (λ n m e. ap (paths_at edits) (omega (arith, e)))
