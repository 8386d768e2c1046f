use Rattle.std.proofs.Common.{false, ◌++◌, ◌∷◌, [], ◌∙◌, ap, sym, subst, map, fold, refl}
use Rattle.serde_json.specs.View.{items_of}
use Rattle.serde_json.specs.Written.{items_text}
use Rattle.loader_commands.specs.View.{texts_seen}
use Rattle.loader_answers.specs.Publishing.{HaveTextsHeld, names_in, and_name, package_held}
use Rattle.loader_answers.proofs.Joining.{line_begins}
use Rattle.loader_answers.proofs.publishing.packages_reply.Goals as goal

pub loop-name-init : goal.loop-name-init
loop-name-init c =
    let names = texts_seen c.args.names.now in
    let all = map (package_held c.args.graph.now) names in
    record {
      line = ap (λ t. t ++ (items_text false (items_of all) ++ 125 ∷ [])) c.in_ok-line.ensures.ok ∙ sym (line_begins all);
      held = subst (HaveTextsHeld c.args.graph.now) (sym c.new-entries.ensures.items) refl;
      names = ap (λ es. fold and_name (names_in es) names) c.new-entries.ensures.items;
    }
