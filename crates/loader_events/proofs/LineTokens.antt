-- The tokens of the event of a line, part by part.
use Rattle.std.proofs.Common.{◌≡◌, ◌∙◌, ap, append_assoc, refl, ℕ, List, [], ◌∷◌, ◌++◌, codes}
use Rattle.std.specs.Prelude.{Option, Some, None, decimal}
use Rattle.std.specs.Borrow.{Bor}
use Rattle.json.specs.Token as token
use Rattle.json.specs.Token.{Token}
use Rattle.serde_json.specs.Data.{object}
use Rattle.loader_replies.specs.Tokens.{tokens_of}
use Rattle.node.specs.Graphs.{GraphView}
use Rattle.round_nodes.specs.declared.run.Run.{Run}
use Rattle.loader_events.specs.Causes.{LastRuns}
use Rattle.loader_events.specs.Lines.{line_members}
use Rattle.loader_events.specs.Tokens.{place_tokens, word_tokens, body_tokens}
use Rattle.loader_events.specs.declared.facts.LineOutcome.{LineOutcome}
use Rattle.loader_events.specs.declared.facts.LineOutcome.TheVariants.{Refused, Edited, Evaluated}

-- more, after what was written
pub then : (x y z a b : List Token) → y ≡ x ++ a → z ≡ y ++ b → z ≡ x ++ (a ++ b)
then x y z a b p q = q ∙ ap (λ ts. ts ++ b) p ∙ append_assoc x a b

abbrev pub parts : GraphView → LastRuns → ℕ → Option (Bor (List ℕ)) → LineOutcome → List Run → List Token
parts graph last n word outcome runs =
    (token.begin_object ∷ []) ++ (place_tokens outcome ++ ((token.key (codes "line") ∷ token.number (decimal n) ∷ []) ++ (word_tokens word ++ (body_tokens graph last outcome runs
    ++ ((token.key (codes "version") ∷ token.number (decimal graph.version) ∷ []) ++ (token.end_object ∷ []))))))

pub line_tokens : (graph : GraphView) (last : LastRuns) (n : ℕ) (word : Option (Bor (List ℕ))) (outcome : LineOutcome) (runs : List Run)
    → parts graph last n word outcome runs ≡ tokens_of (object (line_members graph last n word outcome runs))
line_tokens graph last n None (Refused None code) runs = refl
line_tokens graph last n None (Refused (Some place) code) runs = refl
line_tokens graph last n None (Edited edit) runs = refl
line_tokens graph last n None Evaluated runs = refl
line_tokens graph last n (Some word) (Refused None code) runs = refl
line_tokens graph last n (Some word) (Refused (Some place) code) runs = refl
line_tokens graph last n (Some word) (Edited edit) runs = refl
line_tokens graph last n (Some word) Evaluated runs = refl
