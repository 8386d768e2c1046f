use Rattle.std.proofs.Common.{[], ◌∷◌, codes}
use Rattle.std.proofs.lemmas.Result.{on_ok_weaker}
use Rattle.json.specs.Token.{begin_object, begin_array, key}
use Rattle.loader_replies.proofs.Writing.{then}
use Rattle.loader_replies.proofs.package_json.begin_packages.Goals as goal

pub returns : goal.returns
returns c =
    on_ok_weaker c.begin_array.result (λ e.
    then c.args.out.now _ _ (begin_object ∷ []) (key (codes "packages") ∷ begin_array ∷ []) c.in_ok-begin_object.ensures
    (then c.begin_object.new.self _ _ (key (codes "packages") ∷ []) (begin_array ∷ []) c.in_ok-key.ensures e)) c.begin_array.ensures
