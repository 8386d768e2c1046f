use Rattle.std.proofs.Common.{◌≡◌, ◌∙◌, ap, sym, refl, List, [], ◌∷◌, ◌++◌, map as each, String, Global}
use Rattle.std.specs.Prelude.{string_bytes}
use Rattle.std.specs.declared.sync.Arc.{Arc}
use Rattle.std.proofs.lemmas.List.{append-nil}
use Rattle.filetree.specs.NameMaps.{name_value}
use Rattle.filetree.proofs.name_map.map_names.Goals as goal

keys_named : {X : Type 0} (es : List (String Global × Arc X Global)) → each string_bytes (each (λ e. e.0) es) ≡ each (λ e. e.0) (each name_value es)
keys_named [] = refl
keys_named (e ∷ es) = ap (λ r. string_bytes e.0 ∷ r) (keys_named es)

pub returns : goal.returns
returns g c =
    sym (append-nil c.loop-name.found.items) ∙ sym (ap (λ ks. c.loop-name.found.items ++ each string_bytes ks) c.in-None.ensures.steps.0)
    ∙ c.loop-name.invariant ∙ keys_named c.args.map.now.entries
