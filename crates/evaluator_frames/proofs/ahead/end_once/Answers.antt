use Rattle.std.proofs.Common.{◌≡◌, suc, ◌+◌, ◌∷◌, Vec, Global, drop, drop-cons, get_or, add-one, ap, sym, ◌∙◌}
use Rattle.std.specs.Arc.{arc_value}
use Rattle.syntax_tree.specs.declared.stmt.Stmt.{Stmt}
use Rattle.evaluator_state.specs.View.{world_of, here_of}
use Rattle.evaluator_frames.proofs.Exits.{leaves_first, costs_of_first}
use Rattle.evaluator_frames.proofs.ahead.end_once.Goals as goal

pub returns-in_default : goal.returns-in_default
returns-in_default c = record {
  does = λ env n running.
      let here = here_of c.args.at.now c.args.at.now.line running in
      let all = arc_value c.args.ss.now in
      let k = c.args.i in
      let st = c.index.result.now in
      let stands : st ≡ get_or all.items k st = c.index.ensures ∙ ap (λ (v : Vec Stmt Global). get_or v.items k st) c.deref.ensures in
      let first : drop k all.items ≡ st ∷ drop (k + 1) all.items = rw add-one (drop-cons all.items k st c.requires ∙ ap (λ (x : Stmt). x ∷ drop (suc k) all.items) (sym stands)) in
      leaves_first env n here (world_of c.args.state.now) all.items st k (k + 1) first c.in_ok-once.once (world_of c.exit_once.new.state) (c.in_ok-once.ensures.does env n running);
  costs = costs_of_first c.in_ok-once.once c.args.state.now c.exit_once.new.state c.in_default.not-Not c.in_ok-once.ensures.costs;
}
