use Rattle.std.proofs.Common.{◌≡◌, ◌∙◌, ◌∷◌, ◌++◌, ◌+◌, ◌≤◌, ℕ, [], List, ap, sym, take, length, arith}
use Rattle.std.proofs.Math.Seq.{take_all}
use Rattle.std.proofs.lemmas.List.{map-append}
use Rattle.std.specs.Option.{option_map}
use Rattle.std.specs.declared.alloc.Global.{Global}
use Rattle.std.specs.declared.vec.Vec.{Vec}
use Rattle.engine_semantics.specs.Graph.{Record}
use Rattle.keys.specs.declared.key.Key.{Key}
use Rattle.keys.specs.declared.value.Value.{Value}
use Rattle.node.specs.Records.{items_of}
use Rattle.node.proofs.Lists.{some_is}
use Rattle.round_nodes.proofs.Grouping.{taken_got}
use Rattle.round.proofs.closing.groups_up_to.Goals as goal

pub loop-i-init : goal.loop-i-init
loop-i-init c = record { so_far = ap items_of c.new-shared.ensures.items; within = omega arith }

pub loop-i-preserved : goal.loop-i-preserved
loop-i-preserved c = record {
  so_far = ap items_of c.in_ok-push.ensures.items
      ∙ map-append (λ (g : Vec Key Global). g.items) c.loop-i.shared.items (c.in_ok-share_group.field-0 ∷ [])
      ∙ ap (λ (gs : List (List Key)). gs ++ c.in_ok-share_group.field-0.items ∷ []) c.loop-i.invariant.so_far
      ∙ ap (λ (g : List Key). take c.loop-i.i c.in-Some.groups ++ g ∷ []) c.in_ok-share_group.ensures
      ∙ sym (taken_got c.in-Some.groups c.loop-i.i c.group.result c.group.ensures);
  within = omega arith;
}

pub returns-then-i-at : goal.returns-then-i-at
returns-then-i-at c = λ r e.
    let whole = some_is (c.in-Some.ensures ∙ ap (option_map (λ (x : Record Key Value). x.groups)) e) in
    let w = c.loop-i.invariant.within in
    let n : c.loop-i.i ≡ c.args.at + 1 = omega (arith, w) in
    c.loop-i.invariant.so_far ∙ ap (λ (k : ℕ). take k c.in-Some.groups) n ∙ ap (take (c.args.at + 1)) whole

pub returns : goal.returns
returns c = λ r e.
    let whole = some_is (c.in-Some.ensures ∙ ap (option_map (λ (x : Record Key Value). x.groups)) e) in
    let w = c.loop-i.invariant.within in
    let l : length c.in-Some.groups ≤ c.loop-i.i = omega arith in
    c.loop-i.invariant.so_far ∙ take_all c.loop-i.i c.in-Some.groups l ∙ sym (take_all (c.args.at + 1) c.in-Some.groups (omega (arith, w, l))) ∙ ap (take (c.args.at + 1)) whole
