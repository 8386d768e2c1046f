use Rattle.std.proofs.Common.{◌≡◌, refl, length, ◌∙◌, sym, ap, Some, arith}
use Rattle.std.specs.Prelude.{slice_get}
use Rattle.std.proofs.lemmas.Option.{slice_get_within, slice_get_read}
use Rattle.node_table.proofs.Flats.{end_there}
use Rattle.node_table.proofs.flat.FlatGroups.end.Goals as goal

pub returns-in-None : goal.returns-in-None
returns-in-None c =
    let e = end_there c.args.self.now c.args.i c.requires in
    let w = slice_get_within c.rest.result.now c.args.i e.0 (ap (λ l. slice_get l c.args.i) c.rest.ensures ∙ e.2) in
    let n = c.in-None.ensures.lookup in
    absurd (omega (arith, w, n.3))

pub returns-in-Some : goal.returns-in-Some
returns-in-Some c =
    let e = end_there c.args.self.now c.args.i c.requires in
    let l = c.in-Some.ensures.lookup in
    let at : slice_get c.rest.result.now c.args.i ≡ Some c.in-Some.end.now = slice_get_read c.rest.result.now (length c.rest.result.now) c.args.i c.in-Some.end.now refl l.3.0 l.1 in
    e.1 ∙ sym (ap (λ xs. slice_get xs c.args.i) c.rest.ensures ∙ e.2) ∙ at ∙ ap Some (sym c.place.ensures)
