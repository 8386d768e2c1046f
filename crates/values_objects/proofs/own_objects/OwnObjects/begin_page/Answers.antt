use Rattle.std.specs.declared.alloc.Global.{Global}
use Rattle.std.specs.declared.vec.Vec.{Vec}
use Rattle.values_objects.specs.Pages.{laid_pages, page_standings}
use Rattle.std.proofs.Common.{append-nil, ◌++◌, ◌∷◌, [], List, map, ap, ◌∙◌}
use Rattle.values_objects.specs.declared.heap_object.HeapObject.{HeapObject}
use Rattle.values_objects.specs.declared.pages.Page.{Page}
use Rattle.values_objects.specs.Standings.{standing_of}
use Rattle.values_objects.proofs.PagedObjects.{one_page_more}
use Rattle.values_objects.proofs.own_objects.OwnObjects.begin_page.Goals as goal

pub returns-clause-same : goal.returns-clause-same
returns-clause-same c =
    let own = c.args.self.now in
    ap (λ (xs : List HeapObject). laid_pages c.push_reserved.new.self.items (map standing_of xs)) (ap (λ (v : Vec HeapObject Global). v.items) c.replace-objects.ensures.after ∙ c.in_ok-room.ensures.items)
    ∙ ap (λ (ps : List Page). laid_pages ps []) (c.push_reserved.ensures.items ∙ ap (λ (ps : List Page). ps ++ c.new.result ∷ []) c.in_ok-reserve.ensures.items)
    ∙ one_page_more own.full.items c.new.result []
    ∙ ap (laid_pages own.full.items) (append-nil (page_standings c.new.result) ∙ c.new.ensures ∙ ap (λ (v : Vec HeapObject Global). map standing_of v.items) c.replace-objects.ensures.value)
