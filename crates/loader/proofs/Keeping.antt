-- A session and the journal so far, over one more line.
use Rattle.std.proofs.Common.{◌≡◌, ℕ, ◌+◌, ◌≤◌, List, [], ◌∷◌, ◌++◌, length, refl, sym, ◌∙◌, ap, subst, arith, length-append, Some}
use Rattle.std.specs.Prelude.{Ok, Option, None}
use Rattle.std.proofs.lemmas.List.{append-nil}
use Rattle.filetree.specs.Files.{Files}
use Rattle.functions.specs.Next.{next}
use Rattle.keys.specs.Leaves.{read}
use Rattle.std.specs.Map.{lookup}
use Rattle.std.specs.BTreeMap.{is_at}
use Rattle.engine_semantics.specs.Graph.{Record}
use Rattle.keys.specs.Keys.{key_cmp}
use Rattle.keys.specs.declared.key.Key.{Key}
use Rattle.keys.specs.declared.value.Value.{Value}
use Rattle.node.proofs.Lists.{none_some}
use Rattle.node.specs.Graphs.{GraphView, record_at}
use Rattle.round_nodes.specs.TurnCounts.{turns_of}
use Rattle.round_nodes.specs.declared.run.Run.{Run}
use Rattle.round.specs.Call.{Calls}
use Rattle.loader_answers.specs.State.{State, start, Edit}
use Rattle.loader_answers.specs.Sessions.{SessionView, IsHistory, IsConsistent, state_of, paths_of, files_at, paths_at}
use Rattle.loader_answers.specs.Answers.{line_state, state_after}
use Rattle.loader_answers.specs.Journal.{Evaluation}
use Rattle.loader_answers.specs.Effects.{Effect, nothing, edited, asked, line_effect, effects, edits_in, and_later, requests_in, Evaluates, EvaluatesEach, Performs}
use Rattle.loader_answers.specs.GraphLinks.{IsToldBy}
use Rattle.loader.specs.LineJournal.{IsKept, IsJournalOf}
use Rattle.loader_answers.proofs.Histories.{history_before, history_of, last_files}
use Rattle.loader.proofs.Calling.{past_of}
use Rattle.loader.proofs.Telling.{told_edit, IsBegun, begins, begun_call, ends}

effects_more : (s : State) (lines : List (List ℕ)) (line : List ℕ) → effects s (lines ++ line ∷ []) ≡ effects s lines ++ line_effect line (state_after s lines) ∷ []
effects_more s [] line = refl
effects_more s (l ∷ lines) line = ap (λ r. line_effect l s ∷ r) (effects_more (line_state l s) lines line)

edits_more : (es : List Effect) (e : Effect) → edits_in (es ++ e ∷ []) ≡ edits_in es ++ edits_in (e ∷ [])
edits_more [] e = refl
edits_more (nothing ∷ es) e = edits_more es e
edits_more (edited edit ∷ es) e = ap (λ r. edit ∷ r) (edits_more es e)
edits_more (asked request later ∷ es) e = edits_more es e

requests_more : (es : List Effect) (e : Effect) → requests_in (es ++ e ∷ []) ≡ requests_in es ++ requests_in (e ∷ [])
requests_more [] e = refl
requests_more (nothing ∷ es) e = requests_more es e
requests_more (edited edit ∷ es) e = requests_more es e
requests_more (asked request later ∷ es) e = ap (λ r. and_later request later ∷ r) (requests_more es e)

-- ---- evaluations of a session that began at version 0

module _ {budget : ℕ} (files : ℕ → Files) (paths : ℕ → List (List ℕ)) where
  -- one more of a request
  one_more : (a b : SessionView) → IsConsistent a → a.began ≡ 0 → IsHistory files paths 0 a.edits → (request : Evaluation) (own : List Run) → Evaluates request a b own
      → (requests : List (List Evaluation)) (runs : List Run) (begun : List Evaluation) (before : List Run) → IsBegun files paths budget a.graph requests runs begun before
      → IsBegun files paths budget b.graph requests runs (begun ++ request ∷ []) (before ++ own)
  one_more a b law began history request own e requests runs begun before t =
      let from_began = subst (λ (n : ℕ). IsHistory files paths n a.edits) (sym began) history in
      let present = last_files files paths a law.version from_began in
      let calls = subst (λ (f : Files). Calls next (read f) request.roots a.graph b.graph (Ok own)) (sym present) e.3 in
      let call = calls (past_of files paths a.graph request.roots) (record { at_entry = refl; of_roots = refl; lawful = law.lawful files paths from_began }) in
      subst (λ (r : Evaluation). IsBegun files paths budget b.graph requests runs (begun ++ r ∷ []) (before ++ own)) (λ i. record { version = sym e.2 i; roots = request.roots })
      (begun_call files paths budget a.graph b.graph request.roots requests runs begun before own t call)

  -- all of a request: one, or two
  each_more : (a b : SessionView) → IsConsistent a → a.began ≡ 0 → IsHistory files paths 0 a.edits → (request : Evaluation) (later : Option Evaluation) (own : List Run) → EvaluatesEach request later a b own → turns_of own ≤ budget
      → (requests : List (List Evaluation)) (runs : List Run) → IsToldBy files paths budget a.graph requests runs → IsToldBy files paths budget b.graph (requests ++ and_later request later ∷ []) (runs ++ own)
  each_more a b law began history request None own e within requests runs t =
      ends files paths budget b.graph requests runs (request ∷ []) own (one_more a b law began history request own e requests runs [] [] (begins files paths budget a.graph requests runs t)) within
  each_more a b law began history request (Some later) own (mid, front, rest, lawful, is, e, f) within requests runs t =
      let one = one_more a mid law began history request front e requests runs [] [] (begins files paths budget a.graph requests runs t) in
      let two = one_more mid b lawful (e.0 ∙ began) (subst (λ (x : List Edit). IsHistory files paths 0 x) (sym e.1) history) later rest f requests runs (request ∷ []) front one in
      ends files paths budget b.graph requests runs (request ∷ later ∷ []) own
      (subst (λ (xs : List Run). IsBegun files paths budget b.graph requests runs (request ∷ later ∷ []) xs) (sym is) two) within

-- the session's history stays
each_began : (a b : SessionView) (own : List Run) (request : Evaluation) (later : Option Evaluation) → EvaluatesEach request later a b own → (b.began ≡ a.began) × (b.edits ≡ a.edits)
each_began a b own request None e = (e.0, e.1)
each_began a b own request (Some later) (mid, front, rest, lawful, is, e, f) = (f.0 ∙ e.0, f.1 ∙ e.1)

module _ (budget : ℕ) (h h' : SessionView) (lines : List (List ℕ)) (runs own : List Run) (line : List ℕ) (kept : IsKept budget h lines runs) (law : IsConsistent h') (within : turns_of own ≤ budget) where
  abbrev so_far : List Effect
  so_far = effects start lines

  abbrev all : List Effect
  all = effects start (lines ++ line ∷ [])

  by_effect : (e : Effect) → line_effect line (state_after start lines) ≡ e → Performs e h h' own → IsKept budget h' (lines ++ line ∷ []) (runs ++ own)
  by_effect nothing q m = record {
    lawful = law;
    began = ap (λ (x : SessionView). x.began) m.0 ∙ kept.began;
    edits = ap (λ (x : SessionView). x.edits) m.0 ∙ kept.edits ∙ sym es;
    told = λ files paths history.
        let t = kept.told files paths (subst (λ (x : SessionView). IsHistory files paths 0 x.edits) m.0 history) in
        subst (λ (g : GraphView). IsToldBy files paths budget g (requests_in all) (runs ++ own)) (sym (ap (λ (x : SessionView). x.graph) m.0))
        (subst (λ (rs : List (List Evaluation)). IsToldBy files paths budget h.graph rs (runs ++ own)) (sym rs)
        (subst (λ (xs : List Run). IsToldBy files paths budget h.graph (requests_in so_far) xs) (sym (ap (λ x. runs ++ x) m.1 ∙ append-nil runs)) t));
  }
    where
      split : all ≡ so_far ++ nothing ∷ []
      split = effects_more start lines line ∙ ap (λ e. so_far ++ e ∷ []) q

      es : edits_in all ≡ edits_in so_far
      es = ap edits_in split ∙ edits_more so_far nothing ∙ append-nil (edits_in so_far)

      rs : requests_in all ≡ requests_in so_far
      rs = ap requests_in split ∙ requests_more so_far nothing ∙ append-nil (requests_in so_far)
  by_effect (edited edit) q m = record {
    lawful = law;
    began = m.1 ∙ kept.began;
    edits = m.2 ∙ ap (λ x. x ++ edit ∷ []) kept.edits ∙ sym es;
    told = λ files paths history.
        let longer = subst (λ (x : List Edit). IsHistory files paths 0 x) m.2 history in
        let t = kept.told files paths (history_before files paths 0 h.edits edit longer) in
        let v : h'.graph.version ≡ h.graph.version + 1 = omega (arith, law.version, kept.lawful.version, m.1, ap length m.2, length-append h.edits (edit ∷ [])) in
        let l = law.lawful files paths (subst (λ (b : ℕ). IsHistory files paths b h'.edits) (sym (m.1 ∙ kept.began)) history) in
        subst (λ (rs : List (List Evaluation)). IsToldBy files paths budget h'.graph rs (runs ++ own)) (sym rs)
        (subst (λ (xs : List Run). IsToldBy files paths budget h'.graph (requests_in so_far) xs) (sym (ap (λ x. runs ++ x) m.0 ∙ append-nil runs))
        (told_edit files paths budget h.graph h'.graph (paths_of edit) v m.3 l (requests_in so_far) runs t));
  }
    where
      split : all ≡ so_far ++ edited edit ∷ []
      split = effects_more start lines line ∙ ap (λ e. so_far ++ e ∷ []) q

      es : edits_in all ≡ edits_in so_far ++ edit ∷ []
      es = ap edits_in split ∙ edits_more so_far (edited edit)

      rs : requests_in all ≡ requests_in so_far
      rs = ap requests_in split ∙ requests_more so_far (edited edit) ∙ append-nil (requests_in so_far)
  by_effect (asked request later) q m = record {
    lawful = law;
    began = (each_began h h' own request later m).0 ∙ kept.began;
    edits = (each_began h h' own request later m).1 ∙ kept.edits ∙ sym es;
    told = λ files paths history.
        let before = subst (λ (x : List Edit). IsHistory files paths 0 x) (each_began h h' own request later m).1 history in
        subst (λ (rs : List (List Evaluation)). IsToldBy files paths budget h'.graph rs (runs ++ own)) (sym rs)
        (each_more files paths h h' kept.lawful kept.began before request later own m within (requests_in so_far) runs (kept.told files paths before));
  }
    where
      split : all ≡ so_far ++ asked request later ∷ []
      split = effects_more start lines line ∙ ap (λ e. so_far ++ e ∷ []) q

      es : edits_in all ≡ edits_in so_far
      es = ap edits_in split ∙ edits_more so_far (asked request later) ∙ append-nil (edits_in so_far)

      rs : requests_in all ≡ requests_in so_far ++ and_later request later ∷ []
      rs = ap requests_in split ∙ requests_more so_far (asked request later)

  -- one more line
  pub kept_line : state_of h ≡ state_after start lines → Performs (line_effect line (state_of h)) h h' own → IsKept budget h' (lines ++ line ∷ []) (runs ++ own)
  kept_line s m = by_effect (line_effect line (state_of h)) (ap (line_effect line) (sym s)) m

-- the journal of all lines
pub kept_journal : (budget : ℕ) (h : SessionView) (lines : List (List ℕ)) (runs : List Run) → IsKept budget h lines runs → IsJournalOf budget lines runs
kept_journal budget h lines runs kept =
    (kept.told (files_at (edits_in (effects start lines))) (paths_at (edits_in (effects start lines)))
    (subst (λ (x : List Edit). IsHistory (files_at (edits_in (effects start lines))) (paths_at (edits_in (effects start lines))) 0 x) (sym kept.edits) (history_of (edits_in (effects start lines))))).journal

-- no line yet
pub kept_at_start : (budget : ℕ) (h : SessionView) → IsConsistent h → h.began ≡ 0 → h.edits ≡ [] → h.graph.records ≡ [] → IsKept budget h [] []
kept_at_start budget h law began edits records = record {
  lawful = law;
  began = began;
  edits = edits;
  told = λ files paths history. record {
    journal = record { items = refl; once = tt };
    linked = record {
      lawful = law.lawful files paths (subst (λ (b : ℕ). IsHistory files paths b h.edits) (sym began) history);
      past = λ q i. elim i [ ];
      back = λ k r e. absurd (none k r e);
      there = λ q k i s. elim i [ ];
      last = λ k u r l e. absurd (none k r e);
      clean = λ k r e d w lo hi. absurd (none k r e);
      members = λ k j r s e d i f. absurd (none k r e);
    };
    dated = λ run i. elim i [ ];
  };
}
  where
    none : (k : Key) (r : Record Key Value) → record_at h.graph k ≡ Some r → ⊥
    none k r e = none_some (ap (λ (rs : List (Key × Record Key Value)). lookup (is_at (key_cmp k)) rs) (sym records) ∙ e)
