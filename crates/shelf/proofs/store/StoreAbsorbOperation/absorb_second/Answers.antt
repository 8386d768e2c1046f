use Rattle.std.proofs.Common.{rules, ◌≡◌, ◌++◌, ◌∷◌, [], sym, ap, ◌∙◌}
use Rattle.shelf.specs.Lists.{entry, or_else, last_text}
use Rattle.shelf.specs.Rules.{publish_of, publishes_of}
use Rattle.shelf.proofs.Entries.{entry_snoc, publishes_snoc}
use Rattle.shelf.proofs.store.StoreAbsorbOperation.absorb_second.Goals as goal

pub invariant_of-self-2 : goal.invariant_of-self-2
invariant_of-self-2 c =
    let was = c.args.self.now in
    let batch = c.args.operation.batch in
    let before = was.contents.log.items in
    let log : c.append-contents.result.log.items ≡ before ++ (batch, tt) ∷ [] = search rules in
    record {
      fits = λ q.
          c.put_all.ensures q
          ∙ (ap (or_else (last_text batch.version batch.entries.items q)) (c.reserve.ensures.entries.2 q ∙ was.fits q)
          ∙ (sym (entry_snoc (publishes_of before) (publish_of batch) q)
          ∙ (ap (λ ps. entry ps q) (sym (publishes_snoc before batch)) ∙ ap (λ items. entry (publishes_of items) q) (sym log))));
    }
