use Rattle.std.proofs.Common.{◌≡◌, List, [], ◌∷◌, ◌++◌, map, ap, ◌∙◌}
use Rattle.std.proofs.lemmas.List.{map-append}
use Rattle.values_objects.specs.declared.heap_object.HeapObject.{HeapObject}
use Rattle.values_objects.specs.declared.own_objects.OwnObjects.{OwnObjects}
use Rattle.values_objects.specs.Objects.{object_of}
use Rattle.values_objects.specs.Pages.{laid_pages, own_standings}
use Rattle.values_objects.specs.Standings.{has_gone, own, standing_of}
use Rattle.values_objects.proofs.PagedObjects.{more_at_the_end}
use Rattle.values_objects.proofs.own_objects.OwnObjects.push.Goals.{then-len-ge-PAGE+in_ok-begin_page, else-len-ge-PAGE}
use Rattle.values_objects.proofs.own_objects.OwnObjects.push.Goals as goal

pub returns-clause-pushed : goal.returns-clause-pushed
returns-clause-pushed c =
    let begun = c.if-len-ge-PAGE.self in
    let same : own_standings begun ≡ own_standings c.args.self.now = elim c.if-len-ge-PAGE.branch [ then-len-ge-PAGE+in_ok-begin_page w ↦ ap (λ (o : OwnObjects). own_standings o) w.self-is ∙ w.begin_page.ensures.same | else-len-ge-PAGE w ↦ ap (λ (o : OwnObjects). own_standings o) w.self-is ] in
    ap (λ (xs : List HeapObject). laid_pages begun.full.items (map standing_of xs)) c.in_ok-push.ensures.items
    ∙ ap (laid_pages begun.full.items) (map-append standing_of begun.last.items (c.new.result ∷ []))
    ∙ more_at_the_end begun.full.items (map standing_of begun.last.items) (standing_of c.new.result ∷ [])
    ∙ ap (λ l. l ++ standing_of c.new.result ∷ []) same
    ∙ ap (λ o. own_standings c.args.self.now ++ own o (has_gone c.new.result) ∷ []) c.new.ensures.object
    ∙ ap (λ b. own_standings c.args.self.now ++ own (object_of c.args.object) b ∷ []) c.new.ensures.there
