use Rattle.std.proofs.Common.{rules, ◌≡◌, true, List, Vec, Global, length, take, drop, map, ap, sym, ◌∙◌}
use Rattle.std.specs.Prelude.{zip}
use Rattle.std.specs.Arc.{arc_value}
use Rattle.values_semantics.specs.declared.val.Val.{Val}
use Rattle.values_semantics.specs.Functions.{KeywordArguments, is_twice}
use Rattle.syntax_tree.specs.declared.def.Def.{Def}
use Rattle.syntax_tree.specs.declared.def.Param.{Param}
use Rattle.syntax_tree.specs.Statements.{fn_of, param_of}
use Rattle.evaluator_semantics.specs.Arguments.{plain_part, named_part, value_named, are_parameters}
use Rattle.evaluator_state.specs.SharedDefaults.{default_values}
use Rattle.evaluator_calls.proofs.SparseCalls.{entered}
use Rattle.evaluator_calls.proofs.sparse_calls.sparse_block.Goals as goal

pub returns : goal.returns
returns c =
    let d = arc_value c.args.def.now in let f = fn_of d in let xs = c.args.xs.now in let names = c.args.names.now in let ds = default_values c.args.defaults in
    let named = zip names c.split_at.result.1.now in
    let first : c.split_at.result.0.now ≡ plain_part xs names = c.split_at.ensures.front ∙ ap (λ n. take n xs) c.saturating_sub.ensures in
    let behind : named ≡ named_part xs names = ap (λ l. zip names l) (c.split_at.ensures.back ∙ ap (λ n. drop n xs) c.saturating_sub.ensures) in
    let made = rw c.in-Some-2.is at c.in_ok-named.ensures in
    let params : c.as_slice-params.result.now ≡ d.params.items = c.as_slice-params.ensures.value ∙ ap (λ (e : Def). e.params.items) c.deref-3.ensures in
    let known : are_parameters named f.params ≡ true =
    ap (λ (ns : KeywordArguments). are_parameters ns f.params) (sym made.1) ∙ sym (c.if-not-are_parameters_of.ensures ∙ ap (λ (e : Def). are_parameters c.in-Some-2.named (map param_of e.params.items)) c.deref-4.ensures) in
    let yes : c.are_given.result ≡ true = search rules in
    let counted : c.len.result ≡ length c.deref-5.result.now.items = search rules in
    let number : c.len.result ≡ length ds = counted ∙ ap (λ (v : Vec Val Global). length v.items) c.deref-5.ensures ∙ ap length c.in_ok-defaults.ensures in
    let given = rw (params, first, made.1 ∙ behind, number) at (c.are_given.ensures yes) in
    let same : arc_value c.in_ok-try_clone.field-0 ≡ d = search rules in
    entered d _ (plain_part xs names) (named_part xs names) ds
    same
    (c.in_ok-from_slice.ensures.items ∙ first)
    (λ x. c.in_ok-names.ensures x ∙ ap (value_named x) (made.1 ∙ behind))
    c.in_ok-defaults.ensures
    c.new-2.ensures.empty
    (d.needed c.in-Some.required (ap (λ (e : Def). e.required) (sym c.deref.ensures) ∙ c.in-Some.is))
    given
    (ap is_twice (sym behind) ∙ made.0)
    (ap (λ (l : KeywordArguments). are_parameters l f.params) (sym behind) ∙ known)
