-- The journal so far, over an edit, and over one more request, evaluation by evaluation.
use Rattle.std.proofs.Common.{◌≡◌, ◌≢◌, ◌⊎◌, inl, inr, ℕ, ◌+◌, ◌≤◌, List, [], ◌∷◌, ◌++◌, map, Some, refl, sym, ◌∙◌, ap, subst, arith, append_assoc}
use Rattle.std.proofs.lemmas.List.{append-nil, map-append}
use Rattle.std.specs.List.{AllByRecursion}
use Rattle.engine_semantics.specs.Graph.{Record, MarksDirty}
use Rattle.engine_semantics.specs.Value.{AllDiffer, In, first, after}
use Rattle.filetree.specs.Files.{Files}
use Rattle.functions.specs.Next.{next}
use Rattle.keys.specs.declared.key.Key.{Key}
use Rattle.keys.specs.declared.value.Value.{Value}
use Rattle.node.specs.Graphs.{GraphView, record_at, IsTouched}
use Rattle.node.specs.Laws.{IsConsistentFor}
use Rattle.round_nodes.specs.TurnCounts.{turns_of}
use Rattle.round_nodes.specs.declared.run.Run.{Run}
use Rattle.round.specs.Call.{IsCall}
use Rattle.loader_answers.specs.Journal.{Evaluation, turned_onto, keys_of, place_of, leaves, AreItemsOf, AreItemsOfEach, AreItems, IsJournal}
use Rattle.loader_answers.specs.GraphLinks.{all_turned, IsLinked, IsToldBy}
use Rattle.loader_answers.proofs.Linking.{linked_edit}
use Rattle.loader.proofs.Calling.{past_of, linked_call, items_call, item_now, item_late, item_of}

pub turned_more : (earlier requests : List Evaluation) (request : Evaluation) → turned_onto earlier (requests ++ request ∷ []) ≡ request ∷ turned_onto earlier requests
turned_more earlier [] request = refl
turned_more earlier (q ∷ requests) request = turned_more (q ∷ earlier) requests request

all_more : (earlier : List Evaluation) (requests : List (List Evaluation)) (request : List Evaluation) → all_turned earlier (requests ++ request ∷ []) ≡ turned_onto (all_turned earlier requests) request
all_more earlier [] request = refl
all_more earlier (r ∷ requests) request = all_more (turned_onto earlier r) requests request

-- lists whose elements differ
all_append : {X : Type 0} (P : X → Type 0) (xs ys : List X) → AllByRecursion P xs → ((y : X) → In y ys → P y) → AllByRecursion P (xs ++ ys)
all_append P [] [] a f = tt
all_append P [] (y ∷ ys) a f = (f y first, all_append P [] ys tt (λ z i. f z (after i)))
all_append P (x ∷ xs) ys a f = (a.0, all_append P xs ys a.1 f)

differ_append : {X : Type 0} (xs ys : List X) → AllDiffer xs → AllDiffer ys → ((x y : X) → In x xs → In y ys → x ≢ y) → AllDiffer (xs ++ ys)
differ_append [] ys d e f = e
differ_append (x ∷ xs) ys d e f = (all_append (λ j. x ≢ j) xs ys d.0 (λ y i. f x y first i), differ_append xs ys d.1 e (λ y z i j. f y z (after i) j))

pub from_map : {X Y : Type 0} (f : X → Y) (xs : List X) (y : Y) → In y (map f xs) → (x : X) × In x xs × (f x ≡ y)
from_map f (x ∷ xs) y first = (x, first, refl)
from_map f (x ∷ xs) y (after i) = let r = from_map f xs y i in (r.0, after r.1, r.2)
from_map f [] y i = elim i [ ]

places_apart : (run : Run) (runs : List Run) → AllByRecursion (λ j. run.key ≢ j) (keys_of runs) → AllByRecursion (λ j. place_of run ≢ j) (map place_of runs)
places_apart run [] a = tt
places_apart run (r ∷ runs) a = (λ e. a.0 (ap (λ (p : Key × ℕ). p.0) e), places_apart run runs a.1)

places_differ : (runs : List Run) → AllDiffer (keys_of runs) → AllDiffer (map place_of runs)
places_differ [] d = tt
places_differ (run ∷ runs) d = (places_apart run runs d.0, places_differ runs d.1)

in_either : {X : Type 0} (xs ys : List X) {x : X} → In x (xs ++ ys) → In x xs ⊎ In x ys
in_either [] ys i = inr i
in_either (x ∷ xs) ys first = inl first
in_either (x ∷ xs) ys (after i) = elim (in_either xs ys i) [ inl a ↦ inl (after a) | inr b ↦ inr b ]

module _ (files : ℕ → Files) (paths : ℕ → List (List ℕ)) (budget : ℕ) where
  -- the items of one more evaluation of a request
  each_more : (earlier begun : List Evaluation) (runs : List Run) (request : Evaluation) (own : List Run) → AreItemsOfEach files paths earlier begun runs → AreItemsOf files paths (turned_onto earlier begun) request own
      → AreItemsOfEach files paths earlier (begun ++ request ∷ []) (runs ++ own)
  each_more earlier [] runs request own e of = (own, [], ap (λ r. r ++ own) e ∙ sym (append-nil own), of, refl)
  each_more earlier (q ∷ begun) runs request own items of =
      (items.0, items.1 ++ own, ap (λ r. r ++ own) items.2 ∙ append_assoc items.0 items.1 own, items.3, each_more (q ∷ earlier) begun items.1 request own items.4 of)

  -- the items of one more request
  items_more : (earlier : List Evaluation) (requests : List (List Evaluation)) (runs : List Run) (request : List Evaluation) (own : List Run) → AreItems files paths budget earlier requests runs
      → AreItemsOfEach files paths (all_turned earlier requests) request own → turns_of own ≤ budget → AreItems files paths budget earlier (requests ++ request ∷ []) (runs ++ own)
  items_more earlier [] runs request own e of within = (own, [], ap (λ r. r ++ own) e ∙ sym (append-nil own), of, within, refl)
  items_more earlier (q ∷ requests) runs request own items of within =
      (items.0, items.1 ++ own, ap (λ r. r ++ own) items.2 ∙ append_assoc items.0 items.1 own, items.3, items.4, items_more (turned_onto earlier q) requests items.1 request own items.5 of within)

  -- an edit
  pub told_edit : (old new : GraphView) (edited : List (List ℕ)) → new.version ≡ old.version + 1 → MarksDirty (record_at old) (record_at new) (IsTouched edited) → IsConsistentFor next (leaves files paths) paths new
      → (requests : List (List Evaluation)) (runs : List Run) → IsToldBy files paths budget old requests runs → IsToldBy files paths budget new requests runs
  told_edit old new edited version marks law requests runs told = record {
    journal = told.journal;
    linked = linked_edit files paths old new edited version marks law (all_turned [] requests) told.linked;
    dated = λ run i.
        let r = told.dated run i in
        let m = marks.kept run.key r.0 r.1 in
        (record r.0 { dirty = m.0 }, m.1, r.2);
  }

  -- the journal of these requests, and the items of one that is begun, of which these evaluations are done
  pub record IsBegun (graph : GraphView) (requests : List (List Evaluation)) (runs : List Run) (begun : List Evaluation) (own : List Run) : Type 0 where
    pub journal : IsJournal files paths budget requests runs
    pub items : AreItemsOfEach files paths (all_turned [] requests) begun own
    pub once : AllDiffer (map place_of (runs ++ own))
    pub linked : IsLinked files paths graph (turned_onto (all_turned [] requests) begun)
    pub dated : (run : Run) → In run (runs ++ own) → (r : Record Key Value) × (record_at graph run.key ≡ Some r) × (run.version ≤ r.settled_at)

  -- a request begins
  pub begins : (graph : GraphView) (requests : List (List Evaluation)) (runs : List Run) → IsToldBy files paths budget graph requests runs → IsBegun graph requests runs [] []
  begins graph requests runs told = record {
    journal = told.journal;
    items = refl;
    once = subst (λ (rs : List Run). AllDiffer (map place_of rs)) (sym (append-nil runs)) told.journal.once;
    linked = told.linked;
    dated = subst (λ (rs : List Run). (run : Run) → In run rs → (r : Record Key Value) × (record_at graph run.key ≡ Some r) × (run.version ≤ r.settled_at)) (sym (append-nil runs)) told.dated;
  }

  -- and ends, within its budget
  pub ends : (graph : GraphView) (requests : List (List Evaluation)) (runs : List Run) (begun : List Evaluation) (own : List Run) → IsBegun graph requests runs begun own → turns_of own ≤ budget
      → IsToldBy files paths budget graph (requests ++ begun ∷ []) (runs ++ own)
  ends graph requests runs begun own b within = record {
    journal = record { items = items_more [] requests runs begun own b.journal.items b.items within; once = b.once };
    linked = subst (λ (e : List Evaluation). IsLinked files paths graph e) (sym (all_more [] requests begun)) b.linked;
    dated = b.dated;
  }

  -- one more of its evaluations
  pub begun_call : (old new : GraphView) (roots : List Key) (requests : List (List Evaluation)) (runs : List Run) (begun : List Evaluation) (before own : List Run) → IsBegun old requests runs begun before
      → IsCall next (leaves files paths old.version) (past_of files paths old roots) new own
      → IsBegun new requests runs (begun ++ (record { version = old.version; roots = roots }) ∷ []) (before ++ own)
  begun_call old new roots requests runs begun before own b call = record {
    journal = b.journal;
    items = each_more (all_turned [] requests) begun before request own b.items (items_call files paths old new roots earlier linked own call);
    once = subst (λ (rs : List Run). AllDiffer (map place_of rs)) (append_assoc runs before own) once;
    linked = subst (λ (e : List Evaluation). IsLinked files paths new e) (sym (turned_more (all_turned [] requests) begun request)) (linked_call files paths old new roots earlier linked own call);
    dated = λ run i. dated run (in_either (runs ++ before) own (subst (λ (rs : List Run). In run rs) (sym (append_assoc runs before own)) i));
  }
    where
      request : Evaluation
      request = record { version = old.version; roots = roots }

      earlier : List Evaluation
      earlier = turned_onto (all_turned [] requests) begun

      linked : IsLinked files paths old (turned_onto (all_turned [] requests) begun)
      linked = b.linked

      late : (x y : Key × ℕ) → In x (map place_of (runs ++ before)) → In y (map place_of own) → x ≢ y
      late x y i j e =
          let a = from_map place_of (runs ++ before) x i in
          let o = from_map place_of own y j in
          let p : place_of a.0 ≡ place_of o.0 = a.2 ∙ e ∙ sym o.2 in
          let k : a.0.key ≡ o.0.key = ap (λ (q : Key × ℕ). q.0) p in
          let v : a.0.version ≡ o.0.version = ap (λ (q : Key × ℕ). q.1) p in
          let r = b.dated a.0 a.1 in
          let h = item_late files paths old new roots earlier linked own call o.0 o.1 r.0 (ap (record_at old) (sym k) ∙ r.1) in
          let w = (item_of files paths old new roots earlier linked own call o.0 o.1).version in
          let d = r.2 in
          omega (arith, v, w, d, h)

      once : AllDiffer (map place_of ((runs ++ before) ++ own))
      once = subst AllDiffer (sym (map-append place_of (runs ++ before) own)) (differ_append (map place_of (runs ++ before)) (map place_of own) b.once (places_differ own call.differ) late)

      dated : (run : Run) → In run (runs ++ before) ⊎ In run own → (r : Record Key Value) × (record_at new run.key ≡ Some r) × (run.version ≤ r.settled_at)
      dated run (inl i) =
          let r = b.dated run i in
          let d = r.2 in
          let past = (linked.lawful.each run.key r.0 r.1).past.1 in
          elim (call.after.since run.key) [ inl q ↦ (r.0, q ∙ r.1, d) | inr n ↦ (let s = n.3 in (n.0, n.1, omega arith)) ]
      dated run (inr i) =
          let n = (item_now files paths old new roots earlier linked own call run i).1 in
          let w = (item_of files paths old new roots earlier linked own call run i).version in
          let s = n.2 in
          (n.0, n.1, omega arith)
