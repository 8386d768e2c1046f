use Rattle.std.proofs.Common.{◌≡◌, ◌∙◌, sym, ap, map}
use Rattle.node_table.specs.Flats.{items_of, numbers_in, words_of, groups_of}
use Rattle.node_table.proofs.Flats.{written_words, same_groups}
use Rattle.node_table.proofs.flat.FlatGroups.of.Goals as goal

pub invariant_of-result-2 : goal.invariant_of-result-2
invariant_of-result-2 g c =
    let gs = map (numbers_in c.args.table.now) (items_of c.args.groups.now) in
    let w : c.push_groups.new.words.items ≡ words_of gs = written_words c.args.table.now c.args.groups.now c.in-Ok.count c.at.result c.new-words.result.items c.push.new.self.items c.push_ends.new.words.items c.reserve_exact.new.self.items c.push_groups.new.words.items
    c.if-is_empty.ensures c.new-words.ensures.items c.in_ok-push.ensures.items c.at.ensures c.in-Ok.ensures.1 c.in_ok-all.ensures.ends c.in_ok-reserve_exact.ensures.items c.in_ok-push_groups.ensures in
    w ∙ sym (ap words_of (ap groups_of w ∙ same_groups gs))

pub returns : goal.returns
returns g c =
    let gs = map (numbers_in c.args.table.now) (items_of c.args.groups.now) in
    let w : c.push_groups.new.words.items ≡ words_of gs = written_words c.args.table.now c.args.groups.now c.in-Ok.count c.at.result c.new-words.result.items c.push.new.self.items c.push_ends.new.words.items c.reserve_exact.new.self.items c.push_groups.new.words.items
    c.if-is_empty.ensures c.new-words.ensures.items c.in_ok-push.ensures.items c.at.ensures c.in-Ok.ensures.1 c.in_ok-all.ensures.ends c.in_ok-reserve_exact.ensures.items c.in_ok-push_groups.ensures in
    ap groups_of w ∙ same_groups gs
