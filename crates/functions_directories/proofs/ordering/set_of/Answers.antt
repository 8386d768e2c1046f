use Rattle.std.proofs.Common.{◌∙◌, ap, sym, arith, length}
use Rattle.std.proofs.lemmas.List.{drop_all}
use Rattle.filetree.specs.Listings.{sorted_names}
use Rattle.functions_directories.proofs.NamesInOrder.{none_sorted, one_more}
use Rattle.functions_directories.proofs.ordering.set_of.Goals as goal

pub loop-i-init : goal.loop-i-init
loop-i-init c = record {
  within = omega arith;
  sorted = c.new-set.ensures.empty ∙ sym (ap sorted_names (drop_all (length c.args.texts.now) c.args.texts.now (omega arith)) ∙ none_sorted);
}

pub loop-i-preserved : goal.loop-i-preserved
loop-i-preserved c = record {
  within = omega arith;
  sorted = one_more c.args.texts.now c.loop-i.i c.index-texts-i.result c.in_ok-share.field-0 c.loop-i.set.keys _ (omega arith) c.loop-i.invariant.within c.index-texts-i.is c.in_ok-share.ensures c.loop-i.invariant.sorted c.in_ok-insert.ensures.keys;
}
