use Rattle.std.proofs.Common.{List, [], ◌∷◌, ◌++◌, codes, map}
use Rattle.std.proofs.lemmas.Result.{on_ok_weaker}
use Rattle.json.specs.Token.{Token, begin_object, end_object, key, string}
use Rattle.loader_replies.specs.Answers.{list, target_data}
use Rattle.loader_replies.specs.Tokens.{tokens_of}
use Rattle.loader_replies.proofs.Writing.{then}
use Rattle.loader_replies.proofs.package_json.write_package.Goals as goal

pub returns : goal.returns
returns c =
    let name : List Token = key (codes "name") ∷ string c.args.name.now ∷ [] in
    let targets : List Token = tokens_of (list (map target_data c.args.targets.now)) in
    on_ok_weaker c.end_object.result (λ e.
    then c.args.out.now _ _ (begin_object ∷ []) (name ++ (key (codes "targets") ∷ (targets ++ end_object ∷ []))) c.in_ok-begin_object.ensures
    (then c.begin_object.new.self _ _ name (key (codes "targets") ∷ (targets ++ end_object ∷ [])) c.in_ok-string_member.ensures
    (then c.string_member.new.self _ _ (key (codes "targets") ∷ []) (targets ++ end_object ∷ []) c.in_ok-key.ensures
    (then c.key.new.self _ _ targets (end_object ∷ []) c.in_ok-write_targets.ensures e)))) c.end_object.ensures
