use Rattle.std.proofs.Common.{◌≡◌, ◌∙◌, ap, sym, subst, take, drop, map, false, true, List}
use Rattle.std.specs.Prelude.{zip}
use Rattle.values_semantics.specs.Functions.{KeywordArguments}
use Rattle.values_semantics.specs.Outcome.{ValueOrFault}
use Rattle.evaluator_semantics.specs.World.{Block}
use Rattle.evaluator_semantics.specs.Arguments.{plain_part, named_part, are_parameters, parameter_block, arguments}
use Rattle.syntax_tree.specs.Statements.{fn_of, param_of}
use Rattle.syntax_tree.specs.declared.def.Param.{Param}
use Rattle.evaluator_calls.specs.View.{Blocks}
use Rattle.evaluator_calls.proofs.Accepts.{arguments_twice, arguments_unknown, arguments_known}
use Rattle.evaluator_calls.proofs.accepting.arguments.Goals as goal

pub returns-in_default : goal.returns-in_default
returns-in_default c =
    let f = fn_of c.args.def.now in let xs = c.args.xs.now in let names = c.args.names.now in let ds = c.args.defaults.now in let named = zip names c.split_at.result.1.now in
    let behind : named ≡ named_part xs names = ap (λ l. zip names l) (c.split_at.ensures.back ∙ ap (λ n. drop n xs) c.saturating_sub.ensures) in
    ap (λ (ns : KeywordArguments). arguments f (plain_part xs names) ns ds) (sym behind) ∙ arguments_twice f (plain_part xs names) named ds (rw c.in_default.is at c.in_ok-named.ensures)

pub returns-then-not-branch : goal.returns-then-not-branch
returns-then-not-branch c =
    let f = fn_of c.args.def.now in let xs = c.args.xs.now in let names = c.args.names.now in let ds = c.args.defaults.now in let named = zip names c.split_at.result.1.now in
    let behind : named ≡ named_part xs names = ap (λ l. zip names l) (c.split_at.ensures.back ∙ ap (λ n. drop n xs) c.saturating_sub.ensures) in
    let made = rw c.in-Some.is at c.in_ok-named.ensures in
    let unknown : are_parameters named f.params ≡ false =
    ap (λ (ns : KeywordArguments). are_parameters ns f.params) (sym made.1) ∙ sym (c.in_ok-are_parameters.ensures ∙ ap (λ (ps : List Param). are_parameters c.in-Some.named (map param_of ps)) c.as_slice-params.ensures.value) ∙ c.if-not-branch.true in
    ap (λ (ns : KeywordArguments). arguments f (plain_part xs names) ns ds) (sym behind) ∙ arguments_unknown f (plain_part xs names) named ds made.0 unknown

pub returns : goal.returns
returns c =
    let f = fn_of c.args.def.now in let xs = c.args.xs.now in let names = c.args.names.now in let ds = c.args.defaults.now in let plain = c.split_at.result.0.now in let named = zip names c.split_at.result.1.now in
    let first : plain ≡ plain_part xs names = c.split_at.ensures.front ∙ ap (λ n. take n xs) c.saturating_sub.ensures in
    let behind : named ≡ named_part xs names = ap (λ l. zip names l) (c.split_at.ensures.back ∙ ap (λ n. drop n xs) c.saturating_sub.ensures) in
    let made = rw c.in-Some.is at c.in_ok-named.ensures in
    let known : are_parameters named f.params ≡ true =
    ap (λ (ns : KeywordArguments). are_parameters ns f.params) (sym made.1) ∙ sym (c.in_ok-are_parameters.ensures ∙ ap (λ (ps : List Param). are_parameters c.in-Some.named (map param_of ps)) c.as_slice-params.ensures.value) ∙ c.if-not-branch.false in
    subst (λ (o : ValueOrFault Block). Blocks o c.bind_parameters.result)
    (ap (λ (ps : List Param). parameter_block (map param_of ps) plain c.in-Some.named ds) c.as_slice-params.ensures.value
    ∙ ap (λ (ns : KeywordArguments). parameter_block f.params plain ns ds) made.1
    ∙ sym (arguments_known f plain named ds made.0 known)
    ∙ ap (λ l. arguments f l named ds) first ∙ ap (λ (ns : KeywordArguments). arguments f (plain_part xs names) ns ds) behind) c.bind_parameters.ensures
