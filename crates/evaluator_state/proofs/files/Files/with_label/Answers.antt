use Rattle.std.proofs.Common.{◌≡◌, List, Some, get_or, ap, sym, subst, ◌∙◌}
use Rattle.evaluator_semantics.specs.World.{Names}
use Rattle.evaluator_semantics.specs.Names.{names_at}
use Rattle.evaluator_state.specs.declared.state.FileNames.{FileNames}
use Rattle.evaluator_state.specs.Blocks.{names_of}
use Rattle.evaluator_state.specs.Places.{FirstSo, NoneSo, is_file}
use Rattle.evaluator_state.proofs.Searches.{names_there, names_none}
use Rattle.evaluator_state.proofs.files.Files.with_label.Goals as goal

pub returns-in-Some : goal.returns-in-Some
returns-in-Some c =
    let files = c.self.inside.kept.items in
    let label = c.args.label.now in
    let i = c.in-Some.i in
    let f = c.index.result.now in
    let here : f ≡ get_or files i f = c.index.ensures in
    let first : FirstSo (is_file label) files i = subst (λ (l : List FileNames). FirstSo (is_file label) l i) c.as_slice.ensures.value c.in-Some.ensures in
    ap (λ (g : FileNames). Some (names_of g)) here
    ∙ sym (names_there label files i f first.within first.before (first.here f))
    ∙ ap (λ (l : List Names). names_at label l) c.self.view_is

pub returns-in-None : goal.returns-in-None
returns-in-None c =
    let files = c.self.inside.kept.items in
    let label = c.args.label.now in
    let none : NoneSo (is_file label) files = subst (λ (l : List FileNames). NoneSo (is_file label) l) c.as_slice.ensures.value c.in-None.ensures in
    sym (names_none label files none) ∙ ap (λ (l : List Names). names_at label l) c.self.view_is
