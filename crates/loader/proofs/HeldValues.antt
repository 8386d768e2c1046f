-- The known value of a key stays equal, or its record tells that it has changed.
use Rattle.std.proofs.Common.{◌≡◌, ◌⊎◌, inl, inr, ℕ, ◌+◌, ◌<◌, ◌≤◌, Bool, true, false, cond, List, ◌∷◌, [], length, Option, Some, None, refl, sym, ◌∙◌, ap, subst, arith, length-append}
use Rattle.std.specs.Prelude.{Ok, is_some, nat_lt, if◌then◌else◌}
use Rattle.std.specs.Option.{option_map}
use Rattle.engine_semantics.specs.Graph.{Record, MarksDirty}
use Rattle.filetree.specs.Files.{Files}
use Rattle.functions.specs.Next.{next}
use Rattle.keys.specs.Leaves.{read}
use Rattle.keys.specs.declared.key.Key.{Key}
use Rattle.keys.specs.declared.key.Key.TheVariants as key
use Rattle.keys.specs.declared.value.Value.{Value}
use Rattle.node.specs.Graphs.{GraphView, record_at, present}
use Rattle.node.proofs.Lists.{some_is, none_some, true_false}
use Rattle.round_nodes.specs.declared.run.Run.{Run}
use Rattle.round_nodes.proofs.Wholes.{unsettled_not_clean}
use Rattle.round_nodes.specs.Invariants.{Past, IsSince}
use Rattle.round.specs.Call.{Calls, IsCall}
use Rattle.loader_answers.specs.State.{Edit}
use Rattle.loader_answers.specs.Journal.{Evaluation}
use Rattle.loader_answers.specs.Effects.{Effect, nothing, edited, asked, Evaluates, Performs}
use Rattle.loader_answers.specs.Holding.{held_package, is_held, is_later, changed_at, has_changed}
use Rattle.loader.specs.HoldingLaws.{LeadsTo, stays, moves, UnchangedIsEqual}
use Rattle.loader_answers.specs.Sessions.{SessionView, IsConsistent}
use Rattle.loader.proofs.Calling.{past_of}
use Rattle.loader_answers.proofs.Histories.{last_files, history_from, files_from, paths_from}

-- the record of a key that had a known value at version n: the value is still known, or the record is later now, and
-- the value is equal or changed after n
abbrev Keeps : ℕ → Value → GraphView → Key → Type 0
Keeps n v graph k = (r : Record Key Value) × (record_at graph k ≡ Some r)
    × (((r.dirty ≡ false) × (r.value ≡ v) × (n ≤ graph.version)) ⊎ ((n < graph.version) × ((r.value ≡ v) ⊎ (n < r.changed_at))))

held_record : (o : Option (Record Key Value)) (v : Value) → present o ≡ Some v → (r : Record Key Value) × (o ≡ Some r) × (r.dirty ≡ false) × (r.value ≡ v)
held_record None v e = absurd (none_some e)
held_record (Some r) v e = by r.dirty refl
  where
    by : (b : Bool) → r.dirty ≡ b → (s : Record Key Value) × (Some r ≡ Some s) × (s.dirty ≡ false) × (s.value ≡ v)
    by false q = (r, refl, q, some_is (sym (ap (λ b. cond b None (Some r.value)) q) ∙ e))
    by true q = absurd (none_some (sym (ap (λ b. cond b None (Some r.value)) q) ∙ e))

module _ (n : ℕ) (v : Value) (k : Key) where
  -- over an edit
  keep_edit : (a c : SessionView) (edit : Edit) → IsConsistent a → IsConsistent c → (runs : List Run) → Performs (edited edit) a c runs → Keeps n v a.graph k → Keeps n v c.graph k
  keep_edit a c edit law_a law_c runs m (r, e, o) = let x = m.3.kept k r e in (record r { dirty = x.0 }, x.1, go o)
    where
      later : c.graph.version ≡ a.graph.version + 1
      later = omega (arith, law_a.version, law_c.version, m.1, ap (λ (es : List Edit). length es) m.2, length-append a.edits (edit ∷ []))

      go : ((r.dirty ≡ false) × (r.value ≡ v) × (n ≤ a.graph.version)) ⊎ ((n < a.graph.version) × ((r.value ≡ v) ⊎ (n < r.changed_at)))
          → {d : Bool} → ((d ≡ false) × (r.value ≡ v) × (n ≤ c.graph.version)) ⊎ ((n < c.graph.version) × ((r.value ≡ v) ⊎ (n < r.changed_at)))
      go (inl x) = inr (omega (arith, later, x.2), inl x.1)
      go (inr x) = inr (omega (arith, later, x.0), x.1)

  -- over an evaluation
  keep_call : (a c : SessionView) (request : Evaluation) → IsConsistent a → (runs : List Run) → Evaluates request a c runs → Keeps n v a.graph k → Keeps n v c.graph k
  keep_call a c request law runs e (r, f, o) = go o (call.after.since k)
    where
      files : ℕ → Files
      files = files_from a.began a.edits

      paths : ℕ → List (List ℕ)
      paths = paths_from a.began a.edits

      calls : Calls next (read (files a.graph.version)) request.roots a.graph c.graph (Ok runs)
      calls = subst (λ (g : Files). Calls next (read g) request.roots a.graph c.graph (Ok runs)) (sym (last_files files paths a law.version (history_from a.began a.edits))) e.3

      past : Past (read (files a.graph.version))
      past = past_of files paths a.graph request.roots

      call : IsCall next (read (files a.graph.version)) past c.graph runs
      call = calls past (record { at_entry = refl; of_roots = refl; lawful = law.lawful files paths (history_from a.began a.edits) })

      version : c.graph.version ≡ a.graph.version
      version = call.after.version

      step : (s : Record Key Value) → record_at c.graph k ≡ Some s → n < a.graph.version → (r.value ≡ v) ⊎ (n < r.changed_at) → (s.value ≡ v) ⊎ (n < s.changed_at)
      step s g before x = elim (call.change k s r g f) [
        | inl y ↦ elim x [ inl q ↦ inl (sym y.0 ∙ q) | inr h ↦ inr (omega (arith, y.1, h)) ]
        | inr y ↦ inr (omega (arith, y.0, before))
      ]

      go : ((r.dirty ≡ false) × (r.value ≡ v) × (n ≤ a.graph.version)) ⊎ ((n < a.graph.version) × ((r.value ≡ v) ⊎ (n < r.changed_at))) → IsSince next (read (files a.graph.version)) past c.graph k → Keeps n v c.graph k
      go (inl x) (inl e) = (r, e ∙ f, inl (x.0, x.1, omega (arith, version, x.2)))
      go (inl x) (inr e) = absurd (unsettled_not_clean (record_at a.graph k) r e.4 f x.0)
      go (inr x) (inl e) = (r, e ∙ f, inr (omega (arith, version, x.0), x.1))
      go (inr x) (inr e) = (e.0, e.1, inr (omega (arith, version, x.0), step e.0 e.1 x.0 x.1))

  -- over what an effect makes of a session
  keep_move : (a c : SessionView) (effect : Effect) (runs : List Run) → IsConsistent a → IsConsistent c → Performs effect a c runs → Keeps n v a.graph k → Keeps n v c.graph k
  keep_move a c nothing runs law_a law_c m x = subst (λ (s : SessionView). Keeps n v s.graph k) (sym m.0) x
  keep_move a c (edited edit) runs law_a law_c m x = keep_edit a c edit law_a law_c runs m x
  keep_move a c (asked request None) runs law_a law_c m x = keep_call a c request law_a runs m x
  keep_move a c (asked request (Some later)) runs law_a law_c (mid, one, two, lawful, is, e, f) x = keep_call mid c later lawful two f (keep_call a mid request law_a one e x)

  -- over all calls
  keep_all : {a c : SessionView} → LeadsTo a c → Keeps n v a.graph k → Keeps n v c.graph k
  keep_all stays x = x
  keep_all (moves {c = c} b effect runs before law_b m law_c) x = keep_move b c effect runs law_b law_c m (keep_all before x)

is_sooner : (a b : ℕ) → a < b → nat_lt a b ≡ true
is_sooner a b h = grind (arith, h)

-- the known value then, where no change is reported
held_still : (n version : ℕ) (v : Value) (graph : GraphView) (name : List ℕ) → version ≤ n → Keeps n v graph (key.Package name) → is_held graph (key.Package name) ≡ true → has_changed graph version (key.Package name) ≡ false → held_package graph name ≡ Some v
held_still n version v graph name within (r, e, o) held unchanged = by r.dirty refl
  where
    later : n < r.changed_at → has_changed graph version (key.Package name) ≡ true
    later h = ap (λ (b : Bool). if b then is_later version (changed_at graph (key.Package name)) else false) held
        ∙ (ap (λ (x : Option (Record Key Value)). is_later version (option_map (λ (y : Record Key Value). y.changed_at) x)) e ∙ is_sooner version r.changed_at (omega (arith, within, h)))

    value_is : ((r.dirty ≡ false) × (r.value ≡ v) × (n ≤ graph.version)) ⊎ ((n < graph.version) × ((r.value ≡ v) ⊎ (n < r.changed_at))) → r.value ≡ v
    value_is (inl x) = x.1
    value_is (inr x) = elim x.1 [ inl q ↦ q | inr h ↦ absurd (true_false (later h) unchanged) ]

    by : (b : Bool) → r.dirty ≡ b → held_package graph name ≡ Some v
    by false q = ap present e ∙ (ap (λ b. cond b None (Some r.value)) q ∙ ap (λ (x : Value). Some x) (value_is o))
    by true q = absurd (true_false held (ap (λ (x : Option Value). is_some x) (ap present e ∙ ap (λ b. cond b None (Some r.value)) q)))

pub unchanged_is_equal : UnchangedIsEqual
unchanged_is_equal old new version name v law leads within held is unchanged =
    let x = held_record (record_at old.graph (key.Package name)) v held in
    held_still old.graph.version version v new.graph name within (keep_all old.graph.version v (key.Package name) leads (x.0, x.1, inl (x.2, x.3, omega arith))) is unchanged
