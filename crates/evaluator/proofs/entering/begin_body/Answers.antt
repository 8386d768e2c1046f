use Rattle.std.proofs.Common.{◌≡◌, ◌-◌, ◌++◌, ◌∷◌, [], ℕ, suc, List, Vec, drop, map, arith, sym, ap, ◌∙◌}
use Rattle.std.specs.declared.alloc.Global.{Global}
use Rattle.syntax_grammar.specs.declared.kind.FileKind.TheVariants as k
use Rattle.syntax_tree.specs.declared.stmt.Stmt.{Stmt}
use Rattle.syntax_tree.specs.Statements.{fn_of, stmts_of}
use Rattle.evaluator_state.specs.declared.state.Block as state
use Rattle.values_semantics.specs.declared.val.Val.{Val}
use Rattle.evaluator_semantics.specs.World.{World, Block, Here, ended, Runs, then_runs, with_blocks}
use Rattle.evaluator_semantics.specs.Statements.{suite}
use Rattle.evaluator_semantics.specs.Calls.{call, inside, function_block}
use Rattle.evaluator_state.specs.declared.state.Position.{Position}
use Rattle.evaluator_state.specs.View.{world_of, here_of, block_view}
use Rattle.evaluator_calls.specs.View.{running_of}
use Rattle.evaluator_frames.specs.declared.frame.Caller.{Caller}
use Rattle.evaluator_frames.specs.Frames.{Sig, given_by, on, valued, exited, above, stack_does}
use Rattle.evaluator.specs.Machines.{here_in}
use Rattle.evaluator.proofs.Calls.{body_above, body_goes, one_opened, same_body}
use Rattle.evaluator.proofs.entering.begin_body.Goals as goal

pub returns-clause-goes : goal.returns-clause-goes
returns-clause-goes c = λ env line parameters holds path.
    let m = c.args.m.now in
    let left = m.left in
    let n = left - 1 in
    let succ : left ≡ suc n = omega (arith, c.requires) in
    let f = fn_of c.args.def.now in
    let w = world_of m.state in
    let here = here_in m in
    let h = on env left here line in
    let frames = m.frames.items in
    let within = inside env c.args.label f h in
    let block = function_block f parameters in
    let e = suite env (call env n) f.body within (with_blocks (block ∷ []) w) in
    let opened : running_of c.push-2.new.self.items ≡ (c.args.label, f.name) ∷ running_of m.running.items =
    ap running_of c.in_ok-push-2.ensures.items
    ∙ one_opened m.running.items (record { label = c.in_ok-share.field-0; name = c.in_ok-share-2.field-0 })
    ∙ ap (λ (l : List ℕ). (l, c.in_ok-share-2.field-0) ∷ running_of m.running.items) c.in_ok-share.ensures
    ∙ ap (λ (x : List ℕ). (c.args.label, x) ∷ running_of m.running.items) c.in_ok-share-2.ensures in
    let stands = here_of (record { label = c.args.label; path = c.args.path; kind = k.Bzl; line = c.args.def.now.line }) c.args.def.now.line (running_of c.push-2.new.self.items) in
    let place : within ≡ stands =
    ap (λ (p : List ℕ). here_of (record { label = c.args.label; path = p; kind = k.Bzl; line = c.args.def.now.line }) c.args.def.now.line ((c.args.label, f.name) ∷ running_of m.running.items)) (sym path)
    ∙ ap (λ (r : List (List ℕ × List ℕ)). here_of (record { label = c.args.label; path = c.args.path; kind = k.Bzl; line = c.args.def.now.line }) c.args.def.now.line r) (sym opened) in
    let blocks : block ∷ [] ≡ map block_view c.replace-callers.new.dest.items =
    ap (λ (b : Block). b ∷ []) (sym holds)
    ∙ ap (λ (l : List state.Block). map block_view (l ++ c.args.block ∷ [])) (sym c.new-blocks.ensures.items)
    ∙ ap (λ (l : List state.Block). map block_view l) (sym c.in_ok-push.ensures.items)
    ∙ ap (λ (v : Vec state.Block Global). map block_view v.items) (sym c.replace-callers.ensures.after) in
    let u : World = record w { blocks = map block_view c.replace-callers.new.dest.items } in
    let world : with_blocks (block ∷ []) w ≡ u = ap (λ (bs : List Block). with_blocks bs w) blocks in
    let ends : Vec state.Block Global → Here → Sig → Runs Sig = λ b below sig z. then_runs (ended (given_by sig) (with_blocks (map block_view b.items) z)) (stack_does env left below frames) in
    let caller : Position → List (List ℕ × List ℕ) → Here = λ at r. here_of at at.line (drop 1 r) in
    let below : Caller → Sig → Runs Sig = λ d sig z. then_runs (ended (given_by sig) (with_blocks (map block_view d.blocks.items) z)) (stack_does env d.left (caller d.at stands.running) frames) in
    let above_frame : stack_does env n stands c.push-3.new.frames.items ≡ ends m.state.blocks here = c.in_ok-push-3.ensures.ok env n stands
    ∙ ap below c.in_ok-back.ensures.ok
    ∙ ap (λ (b : Vec state.Block Global). ends b (caller c.in_ok-caller.caller stands.running)) c.replace-callers.ensures.value
    ∙ ap (λ (at : Position). ends m.state.blocks (caller at stands.running)) c.in_ok-caller.ensures.ok
    ∙ ap (λ (r : List (List ℕ × List ℕ)). ends m.state.blocks (caller m.at r)) opened in
    ap (λ (r : Runs Val). above env left here (valued r) frames w) (body_goes env left n f parameters within h succ)
    ∙ body_above e w.blocks (stack_does env left here frames)
    ∙ same_body env n f.body within stands (with_blocks (block ∷ []) w) u w.blocks (stack_does env left here frames) (stack_does env n stands c.push-3.new.frames.items) place world above_frame
    ∙ ap (λ (ss : Vec Stmt Global). then_runs (exited (suite env (call env n) (stmts_of ss.items) stands) u) (stack_does env n stands c.push-3.new.frames.items)) (sym c.in_ok-body.ensures)
