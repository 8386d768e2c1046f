use Rattle.std.proofs.Common.{◌≡◌, ◌++◌, ◌∷◌, [], ◌∙◌, ap, sym, option_map, None, Some}
use Rattle.std.proofs.lemmas.Result.{IfOk-weaker}
use Rattle.std.specs.Map.{lookup}
use Rattle.shelf.specs.Lists.{same_text}
use Rattle.loader_answers.specs.Publishing.{names_in, text_held}
use Rattle.loader_answers.proofs.Texts.{found_text, name_found, name_lacks, names_stay, names_grow, names_of_more, on_ok}
use Rattle.loader_answers.proofs.publishing.cached_text.Goals as goal

pub returns-in-Some-clause-text : goal.returns-in-Some-clause-text
returns-in-Some-clause-text c =
    let name = c.args.name in
    let entries = c.args.entries.now.items in
    let found : lookup (λ n. same_text n name) entries ≡ Some c.in-Some.text.now
    = ap (λ es. lookup (λ n. same_text n name) es) (sym c.as_slice.ensures.value) ∙ (sym c.text_in.ensures ∙ ap (option_map (λ t. t.now)) c.in-Some.is) in
    IfOk-weaker c.share.result (λ t. t ≡ c.in-Some.text.now) (λ t. t ≡ text_held c.args.graph.now name)
    (λ t is. is ∙ found_text (text_held c.args.graph.now) name c.in-Some.text.now entries c.requires found) c.share.ensures

pub returns-in-Some-clause-names : goal.returns-in-Some-clause-names
returns-in-Some-clause-names c =
    let name = c.args.name in
    let entries = c.args.entries.now.items in
    let found : lookup (λ n. same_text n name) entries ≡ Some c.in-Some.text.now
    = ap (λ es. lookup (λ n. same_text n name) es) (sym c.as_slice.ensures.value) ∙ (sym c.text_in.ensures ∙ ap (option_map (λ t. t.now)) c.in-Some.is) in
    on_ok c.share.result (sym (names_stay name (names_in entries) (name_found name c.in-Some.text.now entries found)))

pub returns-clause-names : goal.returns-clause-names
returns-clause-names c =
    let name = c.args.name in
    let entries = c.args.entries.now.items in
    let lacks : lookup (λ n. same_text n name) entries ≡ None
    = ap (λ es. lookup (λ n. same_text n name) es) (sym c.as_slice.ensures.value) ∙ (sym c.text_in.ensures ∙ ap (option_map (λ t. t.now)) c.in_default.is) in
    ap names_in c.in_ok-push.ensures.items ∙ (names_of_more entries (c.in_ok-share.field-0, c.in_ok-share-2.field-0)
    ∙ (ap (λ n. names_in entries ++ n ∷ []) (c.in_ok-share.ensures ∙ c.name.ensures) ∙ sym (names_grow name (names_in entries) (name_lacks name entries lacks))))
