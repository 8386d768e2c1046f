use Rattle.std.proofs.Common.{◌≡◌, ◌∙◌, ◌+◌, ◌++◌, [], ◌∷◌, sym, ap, length, take, arith, append_assoc}
use Rattle.node_table.specs.Flats.{items_of, ends, sizes}
use Rattle.node_table.proofs.Flats.{ends_more, sizes_more}
use Rattle.node_table.proofs.flat.push_ends.Goals as goal

pub loop-group-preserved : goal.loop-group-preserved
loop-group-preserved c =
    let more = ends_more c.args.groups.now c.loop-group.group-index c.group-item.result c.group-item.is c.loop-group-test.true in
    let size = sizes_more c.args.groups.now c.loop-group.group-index c.group-item.result c.group-item.is c.loop-group-test.true in
    let next : c.in-Ok.next ≡ sizes (items_of (take c.loop-group.group-index c.args.groups.now)) + length c.group-item.result.items = omega (arith, c.in-Ok.ensures.1, c.len.ensures, c.loop-group.invariant.end) in
    record {
      ends = c.in_ok-push.ensures.items ∙ ap (λ l. l ++ c.at.result ∷ []) c.loop-group.invariant.ends
          ∙ append_assoc c.args.words.now.items (ends 0 (items_of (take c.loop-group.group-index c.args.groups.now))) (c.at.result ∷ [])
          ∙ ap (λ n. c.args.words.now.items ++ (ends 0 (items_of (take c.loop-group.group-index c.args.groups.now)) ++ n ∷ [])) (c.at.ensures ∙ next)
          ∙ ap (λ l. c.args.words.now.items ++ l) (sym more);
      end = next ∙ sym size;
    }
