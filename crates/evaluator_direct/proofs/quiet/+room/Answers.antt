use Rattle.std.proofs.Common.{◌≡◌, ◌-◌, ap, sym, subst, ◌∙◌}
use Rattle.syntax_tree.specs.Tree as tr
use Rattle.syntax_tree.specs.Tree.{Ex}
use Rattle.syntax_tree.specs.declared.expr.Expr.{Expr}
use Rattle.syntax_tree.specs.View.{tree_of, shared_tree, bound_tree}
use Rattle.evaluator_state.specs.Scope.{is_free}
use Rattle.evaluator_direct.specs.Quiet.{quiet, quiet_bound}
use Rattle.evaluator_direct.specs.Weight.{weight, bound_weight, room}
use Rattle.evaluator_direct.proofs.Trees.{tree-Binary, tree-Choice, tree-Index, tree-Slice}
use Rattle.evaluator_direct.proofs.Room.{between, between_three}
use Rattle.evaluator_direct.proofs.quiet.+room.Goals as goal

pub room_behind-returns-in-Binary : goal.room_behind-returns-in-Binary
room_behind-returns-in-Binary t c =
    let free = is_free c.args.scope.now in
    let op = c.in-Binary.field-0 in
    let b = tree_of c.deref-in-Binary.result.now in
    let a = tree_of c.deref-in-Binary-2.result.now in
    let is : tree_of c.args.e.now ≡ tr.binary op a b = ap tree_of c.in-Binary.is ∙ (tree-Binary op c.in-Binary.a c.in-Binary.b ∙ (ap (λ (x : Expr). tr.binary op (tree_of x) (shared_tree c.in-Binary.b)) (sym c.deref-in-Binary-2.ensures) ∙ ap (λ (x : Expr). tr.binary op a (tree_of x)) (sym c.deref-in-Binary.ensures))) in
    let behind_b = c.room_behind-in-Binary-2.ensures ∙ ap (λ l. room (quiet free b) (weight b) l) c.room_behind-in-Binary.ensures in
    subst (λ (e : Ex). c.saturating_sub-in-Binary.result ≡ room (quiet free e) (weight e) c.args.left) (sym is)
    (c.saturating_sub-in-Binary.ensures ∙ ap (λ l. l - 128) behind_b ∙ between (quiet free a) (quiet free b) c.args.left (weight a) (weight b) 128)

pub room_behind-returns-in-Choice : goal.room_behind-returns-in-Choice
room_behind-returns-in-Choice t c =
    let free = is_free c.args.scope.now in
    let k = tree_of c.deref-in-Choice.result.now in
    let a = tree_of c.deref-in-Choice-2.result.now in
    let b = tree_of c.deref-in-Choice-3.result.now in
    let is : tree_of c.args.e.now ≡ tr.choice a k b = ap tree_of c.in-Choice.is ∙ (tree-Choice c.in-Choice.a c.in-Choice.c c.in-Choice.b ∙ (ap (λ (x : Expr). tr.choice (tree_of x) (shared_tree c.in-Choice.c) (shared_tree c.in-Choice.b)) (sym c.deref-in-Choice-2.ensures) ∙ (ap (λ (x : Expr). tr.choice a (tree_of x) (shared_tree c.in-Choice.b)) (sym c.deref-in-Choice.ensures) ∙ ap (λ (x : Expr). tr.choice a k (tree_of x)) (sym c.deref-in-Choice-3.ensures)))) in
    let behind_k = c.room_behind-behind.ensures ∙ ap (λ l. room (quiet free k) (weight k) l) c.room_behind-in-Choice.ensures in
    let behind_b = c.room_behind-in-Choice-2.ensures ∙ ap (λ l. room (quiet free b) (weight b) l) behind_k in
    subst (λ (e : Ex). c.saturating_sub-in-Choice.result ≡ room (quiet free e) (weight e) c.args.left) (sym is)
    (c.saturating_sub-in-Choice.ensures ∙ ap (λ l. l - 1) behind_b ∙ between_three (quiet free a) (quiet free k) (quiet free b) c.args.left (weight a) (weight k) (weight b) 1)

pub room_behind-returns-in-Index : goal.room_behind-returns-in-Index
room_behind-returns-in-Index t c =
    let free = is_free c.args.scope.now in
    let i = tree_of c.deref-in-Index.result.now in
    let a = tree_of c.deref-in-Index-2.result.now in
    let is : tree_of c.args.e.now ≡ tr.index a i = ap tree_of c.in-Index.is ∙ (tree-Index c.in-Index.a c.in-Index.i ∙ (ap (λ (x : Expr). tr.index (tree_of x) (shared_tree c.in-Index.i)) (sym c.deref-in-Index-2.ensures) ∙ ap (λ (x : Expr). tr.index a (tree_of x)) (sym c.deref-in-Index.ensures))) in
    let behind_i = c.room_behind-in-Index-2.ensures ∙ ap (λ l. room (quiet free i) (weight i) l) c.room_behind-in-Index.ensures in
    subst (λ (e : Ex). c.saturating_sub-in-Index.result ≡ room (quiet free e) (weight e) c.args.left) (sym is)
    (c.saturating_sub-in-Index.ensures ∙ ap (λ l. l - 1) behind_i ∙ between (quiet free a) (quiet free i) c.args.left (weight a) (weight i) 1)

pub room_behind-returns-in-Slice : goal.room_behind-returns-in-Slice
room_behind-returns-in-Slice t c =
    let free = is_free c.args.scope.now in
    let a = tree_of c.deref-in-Slice.result.now in
    let i = bound_tree c.in-Slice.i in
    let j = bound_tree c.in-Slice.j in
    let is : tree_of c.args.e.now ≡ tr.slice a i j = ap tree_of c.in-Slice.is ∙ tree-Slice c.in-Slice.a c.in-Slice.i c.in-Slice.j ∙ ap (λ (x : Expr). tr.slice (tree_of x) i j) (sym c.deref-in-Slice.ensures) in
    let behind_i = c.room_behind_bound.ensures ∙ ap (λ l. room (quiet_bound free i) (bound_weight i) l) c.room_behind-left.ensures in
    let behind_j = c.room_behind_bound-in-Slice.ensures ∙ ap (λ l. room (quiet_bound free j) (bound_weight j) l) behind_i in
    subst (λ (e : Ex). c.saturating_sub-in-Slice.result ≡ room (quiet free e) (weight e) c.args.left) (sym is)
    (c.saturating_sub-in-Slice.ensures ∙ ap (λ l. l - 128) behind_j ∙ between_three (quiet free a) (quiet_bound free i) (quiet_bound free j) c.args.left (weight a) (bound_weight i) (bound_weight j) 128)
