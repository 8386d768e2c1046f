-- Serving, line after line.
use Rattle.std.proofs.Common.{◌≡◌, inl, inr, ◌∙◌, ap, sym, subst, ℕ, zero, suc, ◌<◌, ◌≤◌, List, [], ◌∷◌, ◌++◌, length, take, drop, Bool, true, false, not, ◌&&◌, refl, arith, rules, tests, append_assoc}
use Rattle.std.specs.Prelude.{Result, Ok, Err, OnErr, ◌==◌, Option, Some, None, option_and_then, if◌then◌else◌}
use Rattle.std.proofs.lemmas.List.{append-nil, take-append-drop}
use Rattle.base_lines.specs.Lines.{lines_of, Took}
use Rattle.base_lines.proofs.Cuts.{lines_of_one, lines_of_break, whole_append, whole_break, empty_of}
use Rattle.round_nodes.specs.TurnCounts.{turns_of}
use Rattle.round_nodes.specs.declared.run.Run.{Run}
use Rattle.loader_answers.specs.State.{State, start}
use Rattle.loader_answers.specs.Sessions.{SessionView, IsConsistent, state_of}
use Rattle.loader_answers.specs.Effects.{line_effect, Performs}
use Rattle.loader.specs.LineJournal.{IsKept, IsJournalOf}
use Rattle.loader.proofs.Keeping.{kept_line, kept_journal, kept_at_start}
use Rattle.serde_json.specs.Data.{Data}
use Rattle.loader_answers.specs.Answers.{IsAnswer, AreAnswers, answer_text, texts, line_state, state_after}
use Rattle.loader.specs.Service.{Served, Stopped, IsPart, Between, After, nothing, of_next}

state_append : (s : State) (ls ms : List (List ℕ)) → state_after s (ls ++ ms) ≡ state_after (state_after s ls) ms
state_append s [] ms = refl
state_append s (l ∷ ls) ms = state_append (line_state l s) ls ms

texts_more : (answers : List Data) (d : Data) → texts (answers ++ d ∷ []) ≡ texts answers ++ answer_text d
texts_more [] d = append-nil (answer_text d)
texts_more (a ∷ answers) d = ap (λ r. answer_text a ++ r) (texts_more answers d) ∙ sym (append_assoc (answer_text a) (texts answers) (answer_text d))

are_more : (s : State) (lines : List (List ℕ)) (answers : List Data) (line : List ℕ) (d : Data) → AreAnswers s lines answers → IsAnswer line (state_after s lines) d → AreAnswers s (lines ++ line ∷ []) (answers ++ d ∷ [])
are_more s [] [] line d are is = (is, tt)
are_more s [] (a ∷ answers) line d are is = absurd are
are_more s (l ∷ lines) [] line d are is = absurd are
are_more s (l ∷ lines) (a ∷ answers) line d are is = (are.0, are_more (line_state l s) lines answers line d are.1 is)

positive : (n : ℕ) → (n == 0) ≡ false → 0 < n
positive zero h = cc
positive (suc n) h = omega arith

is_zero : (n : ℕ) → (n == 0) ≡ true → n ≡ 0
is_zero n h = search (rules, tests)

module _ {budget : ℕ} {T told H held waiting : List ℕ} {h : SessionView} {runs : List Run} (b : Between budget T told H held waiting h runs) where
  abbrev s : State
  s = state_of h

  -- the input, where the device has reported more
  input_is : (after fresh : List ℕ) → after ≡ told ++ fresh → after ≡ T ++ (b.taken ++ (waiting ++ fresh))
  input_is after fresh e = e ∙ ap (λ r. r ++ fresh) b.told_is ∙ append_assoc T (b.taken ++ waiting) fresh ∙ ap (λ r. T ++ r) (append_assoc b.taken waiting fresh)

  pub stopped_before : (m n : ℕ) (after fresh : List ℕ) → after ≡ told ++ fresh → Stopped m n T after H held
  stopped_before m n after fresh e = record {
    input = b.taken;
    beyond = waiting ++ fresh;
    answered = lines_of b.taken;
    left = [];
    answers = b.answers;
    part = [];
    told_is = input_is after fresh e;
    ended = inl b.whole;
    lines_are = sym (append-nil (lines_of b.taken));
    are = b.are;
    begins = nothing;
    held_is = b.held_is ∙ ap (λ r. H ++ r) (sym (append-nil (texts b.answers)));
  }

  -- one more reply
  one_more : (line : List ℕ) (d : Data) → IsAnswer line s d → AreAnswers start (lines_of b.taken ++ line ∷ []) (b.answers ++ d ∷ [])
  one_more line d is = are_more start (lines_of b.taken) b.answers line d b.are (subst (λ (x : State). IsAnswer line x d) b.state_is is)

  one_written : (now : List ℕ) (d : Data) → now ≡ held ++ answer_text d → now ≡ H ++ texts (b.answers ++ d ∷ [])
  one_written now d e = e ∙ ap (λ r. r ++ answer_text d) b.held_is ∙ append_assoc H (texts b.answers) (answer_text d) ∙ ap (λ r. H ++ r) (sym (texts_more b.answers d))

  -- a part of the next reply
  begun : (line : List ℕ) (n : ℕ) (d : Data) → IsAnswer line s d → IsPart (line ∷ []) (state_after start (lines_of b.taken)) (take n (answer_text d))
  begun line n d is = of_next d (subst (λ (x : State). IsAnswer line x d) b.state_is is) (drop n (answer_text d), sym (take-append-drop n (answer_text d)))

  part_written : (now : List ℕ) (n : ℕ) (d : Data) → now ≡ held ++ take n (answer_text d) → now ≡ H ++ (texts b.answers ++ take n (answer_text d))
  part_written now n d e = e ∙ ap (λ r. r ++ take n (answer_text d)) b.held_is ∙ append_assoc H (texts b.answers) (take n (answer_text d))

  module _ {rest after kept : List ℕ} {long : Bool} where
    first_line : (ended : Bool) (t : Took waiting rest told after kept long ended) → (not ended && (length t.line == 0)) ≡ false → lines_of (waiting ++ t.fresh) ≡ t.line ∷ lines_of rest
    first_line true t h = ap lines_of t.split ∙ lines_of_break t.line rest t.one
    first_line false t h =
        ap lines_of (t.split ∙ append-nil t.line) ∙ lines_of_one t.line t.one (positive _ h) ∙ ap (λ r. t.line ∷ lines_of r) (sym (t.end refl))

    -- a line that byte 10 ended, and a last one
    taken_line : (t : Took waiting rest told after kept long true) → lines_of (b.taken ++ (t.line ++ 10 ∷ [])) ≡ lines_of b.taken ++ t.line ∷ []
    taken_line t = whole_append b.taken (t.line ++ 10 ∷ []) b.whole ∙ ap (λ ls. lines_of b.taken ++ ls) (lines_of_break t.line [] t.one)

    told_line : (t : Took waiting rest told after kept long true) → after ≡ T ++ ((b.taken ++ (t.line ++ 10 ∷ [])) ++ rest)
    told_line t = input_is after t.fresh t.told ∙ ap (λ r. T ++ r) (ap (λ r. b.taken ++ r) (t.split ∙ sym (append_assoc t.line (10 ∷ []) rest)) ∙ sym (append_assoc b.taken (t.line ++ 10 ∷ []) rest))

    last_line : (t : Took waiting rest told after kept long false) → (not false && (length t.line == 0)) ≡ false → lines_of (b.taken ++ (waiting ++ t.fresh)) ≡ lines_of b.taken ++ t.line ∷ []
    last_line t there = whole_append b.taken (waiting ++ t.fresh) b.whole ∙ ap (λ ls. lines_of b.taken ++ ls) (first_line false t there ∙ ap (λ r. t.line ∷ lines_of r) (t.end refl))

    pub stopped_within : (m k : ℕ) (ended : Bool) (t : Took waiting rest told after kept long ended) → (not ended && (length t.line == 0)) ≡ false → (ended ≡ false → m < k)
        → (now : List ℕ) (n : ℕ) (d : Data) → IsAnswer t.line s d → now ≡ held ++ take n (answer_text d) → Stopped m k T after H now
    stopped_within m k true t h lt now n d is e = record {
      input = b.taken ++ (t.line ++ 10 ∷ []);
      beyond = rest;
      answered = lines_of b.taken;
      left = t.line ∷ [];
      answers = b.answers;
      part = take n (answer_text d);
      told_is = told_line t;
      ended = inl (whole_break b.taken t.line);
      lines_are = taken_line t;
      are = b.are;
      begins = begun t.line n d is;
      held_is = part_written now n d e;
    }
    stopped_within m k false t h lt now n d is e = record {
      input = b.taken ++ (waiting ++ t.fresh);
      beyond = [];
      answered = lines_of b.taken;
      left = t.line ∷ [];
      answers = b.answers;
      part = take n (answer_text d);
      told_is = input_is after t.fresh t.told ∙ ap (λ r. T ++ r) (sym (append-nil (b.taken ++ (waiting ++ t.fresh))));
      ended = inr (lt refl, refl);
      lines_are = last_line t h;
      are = b.are;
      begins = begun t.line n d is;
      held_is = part_written now n d e;
    }

    pub served_end : (t : Took waiting rest told after kept long false) → (length t.line == 0) ≡ true → Served budget T after H held runs
    served_end t empty = record {
      input = b.taken ++ (waiting ++ t.fresh);
      answers = b.answers;
      told_is = input_is after t.fresh t.told;
      are = subst (λ (ls : List (List ℕ)). AreAnswers start ls b.answers) (sym all) b.are;
      held_is = b.held_is;
      journal = subst (λ (ls : List (List ℕ)). IsJournalOf budget ls runs) (sym all) (kept_journal budget h (lines_of b.taken) runs b.kept);
    }
      where
        all : lines_of (b.taken ++ (waiting ++ t.fresh)) ≡ lines_of b.taken
        all = ap (λ m. lines_of (b.taken ++ m)) (t.split ∙ append-nil t.line ∙ empty_of t.line (is_zero _ empty)) ∙ ap lines_of (append-nil b.taken)

    pub served_at_end : (ended : Bool) (t : Took waiting rest told after kept long ended) → (not ended && (length t.line == 0)) ≡ true → Served budget T after H held runs
    served_at_end true t e = absurd (cc)
    served_at_end false t e = served_end t e

    pub after_line : (ended : Bool) (t : Took waiting rest told after kept long ended) → (not ended && (length t.line == 0)) ≡ false
        → (now : List ℕ) (h' : SessionView) (own : List Run) (d : Data) → IsAnswer t.line s d → now ≡ held ++ answer_text d → state_of h' ≡ line_state t.line s
        → (IsConsistent h → IsConsistent h') → Performs (line_effect t.line s) h h' own → turns_of own ≤ budget → After budget ended T after H now rest h' (runs ++ own)
    after_line true t there now h' own d is e f law moves within = record {
      taken = b.taken ++ (t.line ++ 10 ∷ []);
      answers = b.answers ++ d ∷ [];
      whole = whole_break b.taken t.line;
      told_is = told_line t;
      are = subst (λ (ls : List (List ℕ)). AreAnswers start ls (b.answers ++ d ∷ [])) (sym (taken_line t)) (one_more t.line d is);
      held_is = one_written now d e;
      state_is = f ∙ sym (ap (state_after start) (taken_line t)
          ∙ state_append start (lines_of b.taken) (t.line ∷ []) ∙ ap (λ r. line_state t.line r) (sym b.state_is));
      kept = subst (λ (ls : List (List ℕ)). IsKept budget h' ls (runs ++ own)) (sym (taken_line t)) (kept_line budget h h' (lines_of b.taken) runs own t.line b.kept (law b.kept.lawful) within b.state_is moves);
    }
    after_line false t there now h' own d is e f law moves within = record {
      input = b.taken ++ (waiting ++ t.fresh);
      answers = b.answers ++ d ∷ [];
      told_is = input_is after t.fresh t.told;
      are = subst (λ (ls : List (List ℕ)). AreAnswers start ls (b.answers ++ d ∷ [])) (sym (last_line t there)) (one_more t.line d is);
      held_is = one_written now d e;
      journal = subst (λ (ls : List (List ℕ)). IsJournalOf budget ls (runs ++ own)) (sym (last_line t there)) (kept_journal budget h' (lines_of b.taken ++ t.line ∷ []) (runs ++ own)
          (kept_line budget h h' (lines_of b.taken) runs own t.line b.kept (law b.kept.lawful) within b.state_is moves));
    }

-- no line yet
pub between_at_start : (budget : ℕ) (told held waiting : List ℕ) (h : SessionView) (runs : List Run) → waiting ≡ [] → runs ≡ [] → IsConsistent h → h.began ≡ 0 → h.edits ≡ [] → h.graph.records ≡ [] → state_of h ≡ start → Between budget told told held held waiting h runs
between_at_start budget told held waiting h runs w r law began edits records state = record {
  taken = [];
  whole = tt;
  answers = [];
  told_is = sym (append-nil told) ∙ ap (λ x. told ++ x) (sym w);
  are = tt;
  held_is = sym (append-nil held);
  state_is = state;
  kept = subst (λ (xs : List Run). IsKept budget h [] xs) (sym r) (kept_at_start budget h law began edits records);
}

pub on_err : {A E P : Type 0} (r : Result A E) → P → OnErr r P
on_err (Ok x) p = tt
on_err (Err e) p = p

pub stopped_at_start : (m n : ℕ) (told held : List ℕ) → Stopped m n told told held held
stopped_at_start m n told held = record {
  input = [];
  beyond = [];
  answered = [];
  left = [];
  answers = [];
  part = [];
  told_is = sym (append-nil told);
  ended = inl tt;
  lines_are = refl;
  are = tt;
  begins = nothing;
  held_is = sym (append-nil held);
}

-- all replies are a beginning of the replies
pub served_stopped : {budget m n : ℕ} {T told H held : List ℕ} {runs : List Run} → Served budget T told H held runs → m < n → Stopped m n T told H held
served_stopped {T = T} {H = H} s lt = record {
  input = s.input;
  beyond = [];
  answered = lines_of s.input;
  left = [];
  answers = s.answers;
  part = [];
  told_is = s.told_is ∙ ap (λ r. T ++ r) (sym (append-nil s.input));
  ended = inr (lt, refl);
  lines_are = sym (append-nil (lines_of s.input));
  are = s.are;
  begins = nothing;
  held_is = s.held_is ∙ ap (λ r. H ++ r) (sym (append-nil (texts s.answers)));
}

-- a device that had reported fewer ends before
pub stopped_since : {l m n : ℕ} {T told H held : List ℕ} → l ≤ m → Stopped m n T told H held → Stopped l n T told H held
stopped_since le stop = record {
  input = stop.input;
  beyond = stop.beyond;
  answered = stop.answered;
  left = stop.left;
  answers = stop.answers;
  part = stop.part;
  told_is = stop.told_is;
  ended = elim stop.ended [ inl w ↦ inl w | inr e ↦ (let lt = e.0 in inr (omega (arith, le, lt), e.1)) ];
  lines_are = stop.lines_are;
  are = stop.are;
  begins = stop.begins;
  held_is = stop.held_is;
}
