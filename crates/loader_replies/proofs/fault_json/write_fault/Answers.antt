use Rattle.std.proofs.Common.{◌≡◌, ℕ, subst, List, [], ◌∷◌, ◌++◌, codes, decimal}
use Rattle.std.proofs.lemmas.Result.{on_ok_weaker}
use Rattle.json.specs.Token.{Token, begin_object, end_object, key, string, number}
use Rattle.loader_replies.proofs.Writing.{then}
use Rattle.loader_replies.proofs.fault_json.write_fault.Goals as goal

pub returns : goal.returns
returns c =
    let code : List Token = key (codes "code") ∷ number (decimal c.args.code) ∷ [] in
    let line : List Token = key (codes "line") ∷ number (decimal c.args.line) ∷ [] in
    let path : List Token = key (codes "path") ∷ string c.args.path.now ∷ [] in
    on_ok_weaker c.end_object.result (λ e.
    then c.args.out.now _ _ (begin_object ∷ []) (code ++ (line ++ (path ++ end_object ∷ []))) c.in_ok-begin_object.ensures
    (then c.begin_object.new.self _ _ code (line ++ (path ++ end_object ∷ [])) (subst (λ (n : ℕ). c.number_member.new.self ≡ c.begin_object.new.self ++ key (codes "code") ∷ number (decimal n) ∷ []) c.from.ensures c.in_ok-number_member.ensures)
    (then c.number_member.new.self _ _ line (path ++ end_object ∷ []) c.in_ok-number_member-2.ensures
    (then c.number_member-2.new.self _ _ path (end_object ∷ [])
    (subst (λ (t : List ℕ). c.string_member.new.self ≡ c.number_member-2.new.self ++ key (codes "path") ∷ string t ∷ []) c.as_str.ensures c.in_ok-string_member.ensures) e)))) c.end_object.ensures
