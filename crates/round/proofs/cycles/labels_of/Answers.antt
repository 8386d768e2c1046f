use Rattle.std.proofs.Common.{◌∙◌, Some, None, [], ◌∷◌, ◌++◌, sym, ap, append-nil}
use Rattle.std.specs.Option.{option_map}
use Rattle.std.specs.List.{filter_map}
use Rattle.std.proofs.Math.Seq.{take_all}
use Rattle.keys.specs.Cycles.{label_of}
use Rattle.round.proofs.Rotations.{labels_more}
use Rattle.round.proofs.cycles.labels_of.Goals as goal
use Rattle.round.proofs.cycles.labels_of.Goals.{in-Some+in_ok-share-in-Some+in_ok-push-in-Some, in-None}

pub loop-member-init : goal.loop-member-init
loop-member-init c = c.new-labels.ensures.items

pub loop-member-preserved : goal.loop-member-preserved
loop-member-preserved c = elim c.match-label.branch [
  | in-Some+in_ok-share-in-Some+in_ok-push-in-Some w ↦
      labels_more c.args.members.now c.loop-member.member-index c.member-item.result c.member-item.result c.member-item.is c.loop-member-test.true c.loop-member.labels.items c.match-label.labels.items c.loop-member.invariant
      (Some w.in-Some.text.now) (sym c.label.ensures ∙ ap (option_map (λ t. t.now)) w.in-Some.is)
      (ap (λ v. v.items) w.labels-is ∙ w.in_ok-push-in-Some.ensures.items ∙ ap (λ x. c.loop-member.labels.items ++ x ∷ []) w.in_ok-share-in-Some.ensures)
  | in-None w ↦
      labels_more c.args.members.now c.loop-member.member-index c.member-item.result c.member-item.result c.member-item.is c.loop-member-test.true c.loop-member.labels.items c.match-label.labels.items c.loop-member.invariant
      None (sym c.label.ensures ∙ ap (option_map (λ t. t.now)) w.in-None.is)
      (ap (λ v. v.items) w.labels-is ∙ sym (append-nil c.loop-member.labels.items))
]

pub returns : goal.returns
returns c = c.loop-member.invariant ∙ ap (filter_map label_of) (take_all c.loop-member.member-index c.args.members.now c.loop-member-test.false)
