use Rattle.std.proofs.Common.{◌≡◌, ◌∷◌, [], map, refl, ◌∙◌, ap, sym, subst, String, Global, string_bytes}
use Rattle.keys.specs.declared.key.Key.{Key}
use Rattle.node.specs.Graphs.{record_at, present}
use Rattle.loader_replies.specs.Answers.{packages_data}
use Rattle.loader_commands.specs.Refusals.{request_refusal}
use Rattle.serde_json.specs.Written.{compact_text}
use Rattle.loader_answers.specs.KeyAnswers.{package_reply, module_reply}
use Rattle.loader_commands.specs.View.{request_seen, texts_seen}
use Rattle.loader_commands.specs.declared.command.Request.{Request}
use Rattle.loader_answers.specs.Answers.{IsValueOf, Tells, one_member, build_text}
use Rattle.loader_answers.specs.Effects.{reply_roots}
use Rattle.loader_answers.proofs.Requests.{find_told, load_told, module_answered, under_told, if_ok}
use Rattle.std.specs.Prelude.{codes}
use Rattle.loader_answers.proofs.request_answers.reply_text.Goals as goal

pub returns-in-Find : goal.returns-in-Find
returns-in-Find c =
    if_ok (λ (text : String Global). string_bytes text ≡ compact_text (one_member (codes "build") (build_text c.found_by.result))) _ c.build_text.result (λ text is. λ files good accepted only held.
    let d = one_member (codes "build") (build_text c.found_by.result) in
    let told = find_told files c.in-Find.field-0.now c.args.roots.now c.args.graph.now c.found_by.result d c.found_by.ensures refl (only ∙ ap (λ (r : Request). reply_roots (request_seen r) files) c.in-Find.is) held in
    subst (λ (r : Request). Tells (IsValueOf (request_seen r) files) (string_bytes text)) (sym c.in-Find.is) (d, told, is)) c.build_text.ensures

pub returns-in-Load : goal.returns-in-Load
returns-in-Load c =
    let shown = map (λ k. package_reply k (present (record_at c.args.graph.now k))) c.args.roots.now in
    if_ok (λ (text : String Global). string_bytes text ≡ compact_text (packages_data shown)) _ c.packages_text.result (λ text is. λ files good accepted only held.
    let told = load_told files (texts_seen c.in-Load.field-0.items) c.args.roots.now c.args.graph.now (packages_data shown) good
    (ap (λ (r : Request). request_refusal (request_seen r)) (sym c.in-Load.is) ∙ accepted) (only ∙ ap (λ (r : Request). reply_roots (request_seen r) files) c.in-Load.is) refl held in
    subst (λ (r : Request). Tells (IsValueOf (request_seen r) files) (string_bytes text)) (sym c.in-Load.is) (packages_data shown, told, is)) c.packages_text.ensures

pub returns-in-Module : goal.returns-in-Module
returns-in-Module c =
    if_ok (λ (text : String Global). (k : Key) → c.args.roots.now ≡ k ∷ [] → string_bytes text ≡ compact_text (module_reply (present (record_at c.args.graph.now k)))) _ c.module_text.result (λ text is. λ files good accepted only held.
    let told = module_answered files c.in-Module.field-0.now c.args.roots.now c.args.graph.now (string_bytes text) good
    (ap (λ (r : Request). request_refusal (request_seen r)) (sym c.in-Module.is) ∙ accepted) (only ∙ ap (λ (r : Request). reply_roots (request_seen r) files) c.in-Module.is) is held in
    subst (λ (r : Request). Tells (IsValueOf (request_seen r) files) (string_bytes text)) (sym c.in-Module.is) told) c.module_text.ensures

pub returns-in-Under : goal.returns-in-Under
returns-in-Under c =
    let shown = map (λ k. package_reply k (present (record_at c.args.graph.now k))) c.args.roots.now in
    if_ok (λ (text : String Global). string_bytes text ≡ compact_text (packages_data shown)) _ c.packages_text-in-Under.result (λ text is. λ files good accepted only held.
    let told = under_told files c.in-Under.field-0.now c.args.roots.now c.args.graph.now (packages_data shown) good
    (only ∙ ap (λ (r : Request). reply_roots (request_seen r) files) c.in-Under.is) refl held in
    subst (λ (r : Request). Tells (IsValueOf (request_seen r) files) (string_bytes text)) (sym c.in-Under.is) (packages_data shown, told, is)) c.packages_text-in-Under.ensures
