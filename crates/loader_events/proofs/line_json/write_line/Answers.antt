use Rattle.std.proofs.Common.{◌∙◌, ap, List, [], ◌∷◌, ◌++◌, codes}
use Rattle.std.specs.Prelude.{decimal}
use Rattle.std.proofs.lemmas.Result.{on_ok_weaker}
use Rattle.json.specs.Token.{Token, begin_object, end_object, key, number}
use Rattle.loader_events.specs.Tokens.{place_tokens, word_tokens, body_tokens}
use Rattle.loader_events.proofs.LineTokens.{then, line_tokens}
use Rattle.loader_events.proofs.line_json.write_line.Goals as goal

pub returns : goal.returns
returns c =
    let facts = c.args.facts.now in
    let graph = c.args.graph.now in
    let last = c.args.last.now.runs.entries in
    let runs = c.args.runs.now in
    let place : List Token = place_tokens facts.outcome in
    let line : List Token = key (codes "line") ∷ number (decimal c.args.number) ∷ [] in
    let word : List Token = word_tokens facts.word in
    let body : List Token = body_tokens graph last facts.outcome runs in
    let version : List Token = key (codes "version") ∷ number (decimal graph.version) ∷ [] in
    let end : List Token = end_object ∷ [] in
    on_ok_weaker c.end_object.result (λ e.
    then c.args.out.now _ _ (begin_object ∷ []) (place ++ (line ++ (word ++ (body ++ (version ++ end))))) c.in_ok-begin_object.ensures
    (then c.begin_object.new.self _ _ place (line ++ (word ++ (body ++ (version ++ end)))) c.in_ok-write_place.ensures
    (then c.write_place.new.out _ _ line (word ++ (body ++ (version ++ end))) c.in_ok-number_member.ensures
    (then c.number_member.new.self _ _ word (body ++ (version ++ end)) c.in_ok-write_word.ensures
    (then c.write_word.new.out _ _ body (version ++ end) c.in_ok-write_outcome.ensures
    (then c.write_outcome.new.out _ _ version end
    (c.in_ok-number_member-2.ensures ∙ ap (λ v. c.write_outcome.new.out ++ (key (codes "version") ∷ number (decimal v) ∷ [])) c.version_of.ensures) e)))))
    ∙ ap (λ (ts : List Token). c.args.out.now ++ ts) (line_tokens graph last c.args.number facts.word facts.outcome runs)) c.end_object.ensures
