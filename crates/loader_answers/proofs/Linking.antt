-- The graph and the requests so far: what stays true over an edit.
use Rattle.std.proofs.Common.{◌≡◌, ◌⊎◌, inl, inr, ℕ, ◌+◌, ◌≤◌, Bool, false, List, Option, Some, None, refl, sym, ◌∙◌, ap, subst, arith}
use Rattle.engine_semantics.specs.Value.{HasValue, IsMember, Settles}
use Rattle.engine_semantics.specs.Graph.{Record, MarksDirty}
use Rattle.engine_semantics.proofs.Plain.{one_value}
use Rattle.engine_semantics.proofs.Touch.{not_true}
use Rattle.filetree.specs.Files.{Files}
use Rattle.functions.specs.Next.{next}
use Rattle.keys.specs.Leaves.{read}
use Rattle.keys.specs.Cycles.{cycle}
use Rattle.keys.specs.Turns.{NoCycle}
use Rattle.keys.specs.declared.key.Key.{Key}
use Rattle.keys.specs.declared.key.Key.TheVariants as key
use Rattle.keys.specs.declared.value.Value.{Value}
use Rattle.keys.proofs.CycleLaws.{turned}
use Rattle.node.specs.Graphs.{GraphView, record_at, IsTouched}
use Rattle.node.specs.Laws.{IsConsistentFor}
use Rattle.node.proofs.Lists.{some_is, none_some, true_false}
use Rattle.loader_answers.specs.Journal.{Evaluation, leaves}
use Rattle.loader_answers.specs.GraphLinks.{Stays, IsLinked}

pub past_or_now : (w n m : ℕ) → m ≡ n + 1 → w ≤ m → (w ≤ n) ⊎ (w ≡ m)
past_or_now w n m e h = grind arith

module _ (files : ℕ → Files) (paths : ℕ → List (List ℕ)) where
  abbrev at : ℕ → Key → Option Value
  at = leaves files paths

  -- a key has one value at a version
  pub same_at : (u : ℕ) {k : Key} {v w : Value} → HasValue next (at u) cycle k v → HasValue next (at u) cycle k w → v ≡ w
  same_at u h g = one_value next (at u) cycle turned h.1 g.1

  -- a clean record stayed true until now
  pub stays_now : (graph : GraphView) (earlier : List Evaluation) → IsLinked files paths graph earlier → (k : Key) (r : Record Key Value) → record_at graph k ≡ Some r → r.dirty ≡ false → Stays files paths k r graph.version
  stays_now graph earlier linked k r e d = record {
    early = (linked.lawful.each k r e).past.1;
    settles = linked.clean k r e d;
    members = λ j m.
        let dep = (linked.lawful.each k r e).depends j m in
        let c : dep.of_j.dirty ≡ false = not_true dep.of_j.dirty (λ t. true_false (dep.dirty_above t) d) in
        let older : dep.of_j.settled_at ≤ r.settled_at = linked.members k j r dep.of_j e d m dep.recorded in
        (dep.of_j.value, λ w lo hi. (dep.of_j.groups, linked.clean j dep.of_j dep.recorded c w (omega arith) hi));
    untouched = λ x f w lo hi t. true_false (linked.lawful.leaf_clean k r x e f w lo hi t) d;
  }

  module _ (old new : GraphView) (edited : List (List ℕ)) (version : new.version ≡ old.version + 1) (marks : MarksDirty (record_at old) (record_at new) (IsTouched edited)) (law : IsConsistentFor next at paths new) where
    -- what a record was
    origin : (k : Key) (m : Record Key Value) → record_at new k ≡ Some m → (r : Record Key Value) × (record_at old k ≡ Some r) × (d : Bool) × (m ≡ record r { dirty = d })
    origin k m e = go (record_at old k) refl
      where
        go : (o : Option (Record Key Value)) → record_at old k ≡ o → (r : Record Key Value) × (record_at old k ≡ Some r) × (d : Bool) × (m ≡ record r { dirty = d })
        go None h = absurd (none_some (sym (marks.none_new k h) ∙ e))
        go (Some r) h = let p = marks.kept k r h in (r, h, p.0, some_is (sym e ∙ p.1))

    was_clean : (k : Key) (r m : Record Key Value) → record_at old k ≡ Some r → record_at new k ≡ Some m → m.dirty ≡ false → r.dirty ≡ false
    was_clean k r m e f d = not_true r.dirty (λ t. true_false (marks.marks k r m e f (inl t)) d)

    restay : {k : Key} {u : ℕ} (r : Record Key Value) (d : Bool) → Stays files paths k r u → Stays files paths k (record r { dirty = d }) u
    restay r d s = record { early = s.early; settles = s.settles; members = s.members; untouched = s.untouched }

    -- an edit
    pub linked_edit : (earlier : List Evaluation) → IsLinked files paths old earlier → IsLinked files paths new earlier
    linked_edit earlier linked = record {
      lawful = law;
      past = λ q i. let h = linked.past q i in omega (arith, version);
      back = λ k m e. let o = origin k m e in linked.back k o.0 o.1;
      there = λ q k i s. let r = linked.there q k i s in let m = marks.kept k r.0 r.1 in (record r.0 { dirty = m.0 }, m.1);
      last = λ k u m l e. let o = origin k m e in subst (λ x. Stays files paths k x u) (sym o.3) (restay o.0 o.2 (linked.last k u o.0 l o.1));
      clean = λ k m e d w lo hi. still k m e d w lo (past_or_now w old.version new.version version hi);
      members = λ k j m n e d i f.
          let o = origin k m e in
          let p = origin j n f in
          let c = was_clean k o.0 m o.1 e d in
          let h = linked.members k j o.0 p.0 o.1 c (subst (λ (x : Record Key Value). IsMember j x.groups) o.3 i) p.1 in
          let a : m.settled_at ≡ o.0.settled_at = ap (λ (x : Record Key Value). x.settled_at) o.3 in
          let b : n.settled_at ≡ p.0.settled_at = ap (λ (x : Record Key Value). x.settled_at) p.3 in
          omega (arith, h, a, b);
    }
      where
        still : (k : Key) (m : Record Key Value) → record_at new k ≡ Some m → m.dirty ≡ false → (w : ℕ) → m.settled_at ≤ w → (w ≤ old.version) ⊎ (w ≡ new.version) → Settles next (at w) cycle k m.groups m.value
        still k m e d w lo (inl hi) =
            let o = origin k m e in
            let c = was_clean k o.0 m o.1 e d in
            let a : m.settled_at ≡ o.0.settled_at = ap (λ (x : Record Key Value). x.settled_at) o.3 in
            subst (λ (x : Record Key Value). Settles next (at w) cycle k x.groups x.value) (sym o.3) (linked.clean k o.0 o.1 c w (omega (arith, a, lo)) hi)
        still k m e d w lo (inr h) = subst (λ (u : ℕ). Settles next (at u) cycle k m.groups m.value) (sym h) ((law.each k m e).clean d)

-- what is read is not a cycle
pub read_plain : (files : Files) (k : Key) (v : Value) → read files k ≡ Some v → NoCycle v
read_plain files (key.File path) v e = plain e tt
  where
    plain : {u : Value} → Some u ≡ Some v → NoCycle u → NoCycle v
    plain e h = subst NoCycle (some_is e) h
read_plain files (key.Listing directory) v e = plain e tt
  where
    plain : {u : Value} → Some u ≡ Some v → NoCycle u → NoCycle v
    plain e h = subst NoCycle (some_is e) h
read_plain files (key.Lookup directory) v e = absurd (none_some e)
read_plain files (key.Glob below pattern directories) v e = absurd (none_some e)
read_plain files (key.Module label) v e = absurd (none_some e)
read_plain files (key.Package name) v e = absurd (none_some e)
read_plain files (key.Under directory) v e = absurd (none_some e)
