use Rattle.std.proofs.Common.{rules, arith, ◌≡◌, ◌∙◌, ◌||◌, ap, cond, true, map, List}
use Rattle.std.proofs.lemmas.Grind.{common_steps}
use Rattle.std.specs.HashSet.{contains}
use Rattle.values_semantics.specs.Comparing.{same_text}
use Rattle.syntax_grammar.specs.Targets.{is_bound, has_name}
use Rattle.syntax_tree.specs.Statements.{param_of}
use Rattle.syntax_tree.specs.declared.def.Param.{Param}
use Rattle.syntax.proofs.ParameterNames.{knows_behind, defaults_behind}
use Rattle.syntax.proofs.parameters.Parameters.with.Goals as goal
use Rattle.syntax.proofs.parameters.Parameters.with.Goals.{then-self, else-self}

pub invariant_of-result : goal.invariant_of-result
invariant_of-result c =
    let p = c.args.param in
    let found = c.self.inside.found.items in
    let more = c.push.new.self.items in
    let default : c.if-self.with_default ≡ (c.self.inside.with_default || is_bound (param_of p).default) =
    elim c.if-self.branch [ then-self w ↦ first_of (search rules, grind (arith, common_steps)) | else-self w ↦ first_of (search rules, grind (arith, common_steps)) ] in (
      (λ n is.
          let noted = rw is at c.in_ok-names.ensures in
          knows_behind found more p (contains same_text n.set) c.in_ok-push.ensures.items (λ q. noted q ∙ ap (λ (ps : List Param). cond (same_text p.name q) true (has_name (map param_of ps) q)) c.as_slice.ensures.value)),
      defaults_behind found more p c.self.inside.with_default c.if-self.with_default c.in_ok-push.ensures.items c.self.invariant.1 default,
    )
