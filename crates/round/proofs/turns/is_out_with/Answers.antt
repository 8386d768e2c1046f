use Rattle.std.proofs.Common.{◌∙◌, sym, ap, subst, refl}
use Rattle.std.specs.Option.{option_map}
use Rattle.keys.specs.Turns.{values}
use Rattle.node.specs.Graphs.{record_at}
use Rattle.node.specs.Records.{items_of}
use Rattle.node.proofs.Lists.{true_false}
use Rattle.round_nodes.specs.Nodes.{node_at}
use Rattle.round_nodes.specs.Members.{Answers}
use Rattle.round.proofs.Rounding.{out_never_none, out_decided}
use Rattle.round.proofs.turns.is_out_with.Goals as goal

pub returns-in-None : goal.returns-in-None
returns-in-None g c = (
  λ e. absurd (true_false (sym (sym e)) refl),
  λ o. absurd (out_never_none c.args.graph.now c.args.table.now c.requires.whole c.args.turned.now.asked.key (items_of c.asked_groups.result.now)
      (λ n e. c.asked_groups.ensures n (ap (node_at c.args.table.now.nodes) c.key-2.ensures ∙ e)) c.args.turned.now.asked.answers o
      (subst (λ o. Answers (record_at c.args.graph.now) (items_of c.asked_groups.result.now) (option_map (λ v. values v.items) o)) c.in-None.is c.in_ok-answers_to.ensures)),
)

pub returns-in-Some : goal.returns-in-Some
returns-in-Some g c =
    let n = c.is_out.ensures.yes c.if-not-is_out.false in
    let a = ap values c.as_slice.ensures.value in
    out_decided c.args.graph.now c.args.table.now c.requires.whole c.args.turned.now.asked.key (items_of c.asked_groups.result.now)
    (λ m e. c.asked_groups.ensures m (ap (node_at c.args.table.now.nodes) c.key-2.ensures ∙ e))
    n.0 (ap (node_at c.args.table.now.nodes) (sym c.key.ensures) ∙ n.1) n.2 (values c.in-Some.answers.items) c.args.turned.now.asked.answers
    (subst (λ o. Answers (record_at c.args.graph.now) (items_of c.asked_groups.result.now) (option_map (λ v. values v.items) o)) c.in-Some.is c.in_ok-answers_to.ensures)
    c.same_values.result (λ t. sym a ∙ c.same_values.ensures.0 t ∙ c.answers.ensures, λ h. c.same_values.ensures.1 (a ∙ h ∙ sym c.answers.ensures))
