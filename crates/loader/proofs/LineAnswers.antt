-- Replies to lines, from what their commands are answered with.
use Rattle.std.proofs.Common.{◌≡◌, ◌∙◌, ap, sym, subst, refl, ℕ, List, [], ◌∷◌, ◌++◌, Bool, true, false}
use Rattle.std.specs.Prelude.{Option, Some, None, option_and_then, if◌then◌else◌}
use Rattle.loader_commands.specs.Commands.{Command, Request, ask, data_of, command_of}
use Rattle.base_lines.specs.Lines.{is_too_long}
use Rattle.round_nodes.specs.declared.run.Run.{Run}
use Rattle.serde_json.specs.Written.{compact_text}
use Rattle.loader_answers.specs.Answers.{refusal_reply, IsAnswerOf, IsAnswerIf, IsRequestAnswer, Tells, state_if}
use Rattle.loader_answers.specs.Effects.{Performs, nothing, effect_if, request_effect}
use Rattle.loader_answers.specs.Sessions.{SessionView, state_of, files_of}
use Rattle.loader.specs.LineAnswers.{AnswersLine}

-- a line that is too long
pub long_line : (whole : List ℕ) (h : SessionView) (line : List ℕ) (runs : List Run) → is_too_long whole ≡ true → line ≡ compact_text (refusal_reply 6) ++ 10 ∷ [] → runs ≡ [] → AnswersLine whole h h line runs
long_line whole h line runs long is none = let s = state_of h in let o = option_and_then command_of (data_of whole) in record {
  told = (refusal_reply 6, subst (λ (b : Bool). IsAnswerOf b whole s (refusal_reply 6)) (sym long) refl, is);
  state = sym (ap (λ (b : Bool). if b then s else state_if o s) long);
  moves = subst (λ (b : Bool). Performs (if b then nothing else effect_if o s) h h runs) (sym long) (refl, none);
}

-- one that is not, and holds this command, or none
pub short_line : (whole : List ℕ) (o : Option Command) (old new : SessionView) (text line : List ℕ) (runs : List Run) → is_too_long whole ≡ false → option_and_then command_of (data_of whole) ≡ o
    → Tells (IsAnswerIf o (state_of old)) text → line ≡ text ++ 10 ∷ [] → state_of new ≡ state_if o (state_of old) → Performs (effect_if o (state_of old)) old new runs → AnswersLine whole old new line runs
short_line whole o old new text line runs short holds tells is state moves = let s = state_of old in let held = option_and_then command_of (data_of whole) in record {
  told = (tells.0, subst (λ (b : Bool). IsAnswerOf b whole s tells.0) (sym short) (subst (λ (p : Option Command). IsAnswerIf p s tells.0) (sym holds) tells.1), is ∙ ap (λ r. r ++ 10 ∷ []) tells.2);
  state = state ∙ ap (λ (p : Option Command). state_if p s) (sym holds) ∙ sym (ap (λ (b : Bool). if b then s else state_if held s) short);
  moves = subst (λ (b : Bool). Performs (if b then nothing else effect_if held s) old new runs) (sym short) (subst (λ (p : Option Command). Performs (effect_if p s) old new runs) (sym holds) moves);
}

-- one that is answered before anything is evaluated
pub plain_line : (whole : List ℕ) (o : Option Command) (old new : SessionView) (text line : List ℕ) (runs : List Run) → is_too_long whole ≡ false → option_and_then command_of (data_of whole) ≡ o
    → Tells (IsAnswerIf o (state_of old)) text × (state_of new ≡ state_if o (state_of old)) × Performs (effect_if o (state_of old)) old new [] → line ≡ text ++ 10 ∷ [] → runs ≡ [] → AnswersLine whole old new line runs
plain_line whole o old new text line runs short holds b is none = subst (λ (rs : List Run). AnswersLine whole old new line rs) (sym none) (short_line whole o old new text line [] short holds b.0 is b.1 b.2)

same_state : (old new : SessionView) → new.edits ≡ old.edits → new.graph.version ≡ old.graph.version → state_of new ≡ state_of old
same_state old new edits version = ap (λ h. record { files = files_of (record { began = old.began; edits = h; graph = new.graph }); version = new.graph.version }) edits ∙ ap (λ v. record { files = files_of old; version = v }) version

-- one that asks something, where the session was not moved before
pub asking_line : (whole : List ℕ) (request : Request) (old mid new : SessionView) (text line : List ℕ) (runs : List Run) → is_too_long whole ≡ false → option_and_then command_of (data_of whole) ≡ Some (ask request) → mid ≡ old
    → Tells (IsRequestAnswer request (files_of mid)) text → line ≡ text ++ 10 ∷ [] → new.edits ≡ mid.edits → new.graph.version ≡ mid.graph.version → Performs (request_effect request (state_of mid)) mid new runs
    → AnswersLine whole old new line runs
asking_line whole request old mid new text line runs short holds same tells is edits version moves =
    subst (λ (h : SessionView). AnswersLine whole h new line runs) same
    (short_line whole (Some (ask request)) mid new text line runs short holds tells is (same_state mid new edits version) moves)

-- what is done for a line that is not a command
pub no_step : (o : Option Command) (h : SessionView) (text : List ℕ) → o ≡ None → text ≡ compact_text (refusal_reply 1)
    → Tells (IsAnswerIf o (state_of h)) text × (state_of h ≡ state_if o (state_of h)) × Performs (effect_if o (state_of h)) h h []
no_step None h text e is = ((refusal_reply 1, refl, is), refl, (refl, refl))
no_step (Some command) h text e is = absurd cc
