use Rattle.std.proofs.Common.{◌≡◌, ◌++◌, ℕ, List, true, cond, length, drop, map, ap, sym, ◌∙◌}
use Rattle.std.specs.Arc.{arc_value}
use Rattle.syntax_tree.specs.Bindings.{differ, names_once, suite_names}
use Rattle.syntax_tree.specs.Statements.{fn_of, stmts_of, param_of}
use Rattle.evaluator_semantics.specs.Names.{all_unbound}
use Rattle.evaluator_semantics.specs.Arguments.{plain_part, named_part}
use Rattle.evaluator_state.specs.View.{block_of}
use Rattle.evaluator_calls.proofs.Accepts.{rest_all}
use Rattle.evaluator_calls.proofs.BlockNames.{own_names, arguments_names, names_filled}
use Rattle.evaluator_calls.proofs.blocks.slot_block.Goals as goal

pub small_block-requires : goal.small_block-requires
small_block-requires c =
    let d = c.args.def.now in let old = c.in-Ok.slots in let new = c.push_unbound.new.slots in let n = length c.as_slice-params.result.now in let all = d.names.items in
    let own = own_names (map param_of d.params.items) in
    let made : block_of new ≡ block_of old ++ all_unbound (drop n all) =
    c.in_ok-push_unbound.ensures ∙ ap (λ l. block_of old ++ all_unbound l) (rest_all n c.deref.result.now ∙ ap (λ (l : List (List ℕ)). drop n l) c.deref.ensures.value) in
    let begins = arguments_names (fn_of d) (plain_part c.args.xs.now c.args.names.now) (named_part c.args.xs.now c.args.names.now) c.args.defaults.now (block_of old) c.in-Ok.ensures in
    ap differ (names_filled d.params.items (names_once own (suite_names (stmts_of (arc_value d.body).items))) all old.items new.items n d.bound begins made (ap length c.as_slice-params.ensures.value))
    ∙ ap (λ b. cond b (differ all) true) (sym c.if-once.true)
    ∙ d.distinct
