use Rattle.std.proofs.Common.{◌≡◌, false, is_some, sym, ap, ◌∙◌}
use Rattle.values_semantics.specs.Comparing.{entry_at}
use Rattle.evaluator_state.proofs.HeapPieces.{behind}
use Rattle.evaluator_state.proofs.gathering.add_new_entry.Goals as goal

pub returns-clause-says : goal.returns-clause-says
returns-clause-says c =
    let key = c.in_ok-key.key in
    let es = c.args.entries.now.entries in
    let none : is_some (entry_at key es) ≡ false = sym (c.if-is_some.ensures ∙ ap (λ o. is_some o) c.entry.ensures) in
    rw (c.in_ok-key.ensures.says, none, c.in_ok-set_entry.ensures, behind key (record { key = c.args.k; value = c.args.x }) es none)
