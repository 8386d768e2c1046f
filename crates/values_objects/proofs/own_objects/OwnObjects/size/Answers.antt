use Rattle.std.proofs.Common.{◌≡◌, ◌/◌, ◌<◌, List, IfOk, option_map, length, map, refl, sym, subst, ap, ◌∙◌, arith}
use Rattle.std.specs.Prelude.{slice_get, ◌-◌}
use Rattle.std.proofs.lemmas.Option.{slice_get-map, slice_get_read}
use Rattle.values_objects.specs.declared.heap_object.HeapObject.{HeapObject}
use Rattle.values_objects.specs.declared.pages.Page.{Page}
use Rattle.values_objects.specs.ObjectBytes.{found_bytes, copy_bytes}
use Rattle.values_objects.specs.Own.{written_object}
use Rattle.values_objects.specs.Standings.{has_gone, is_gone, standing_of}
use Rattle.values_objects.specs.Wholes.{page_size}
use Rattle.values_objects.proofs.PagedObjects.{gone_last, object_last, object_there, page_there, standing_last, standing_there}
use Rattle.values_objects.proofs.ListReads.{on_err}
use Rattle.values_objects.proofs.own_objects.OwnObjects.size.Goals as goal

pub returns-then-i-self-clause-found : goal.returns-then-i-self-clause-found
returns-then-i-self-clause-found c =
    let own = c.args.self.now in
    let here = object_last own.full.items own.last.items own.first c.args.i own.paged c.if-i-self.true ∙ ap (λ (xs : List HeapObject). option_map written_object (slice_get xs (c.args.i - own.first))) (sym c.as_slice.ensures.value) in
    subst (λ o. IfOk c.size_own.result (λ n. n ≡ found_bytes o)) (sym here) c.size_own.ensures.found

pub returns-then-i-self-clause-counted : goal.returns-then-i-self-clause-counted
returns-then-i-self-clause-counted c =
    let own = c.args.self.now in
    let here = standing_last own.full.items own.last.items own.first c.args.i own.paged c.if-i-self.true ∙ slice_get-map standing_of own.last.items (c.args.i - own.first) ∙ ap (λ (xs : List HeapObject). option_map standing_of (slice_get xs (c.args.i - own.first))) (sym c.as_slice.ensures.value) in
    subst (λ o. IfOk c.size_own.result (λ n. n ≡ copy_bytes o)) (sym here) c.size_own.ensures.counted

pub returns-then-i-self-clause-gone : goal.returns-then-i-self-clause-gone
returns-then-i-self-clause-gone c =
    let own = c.args.self.now in
    let here = gone_last own.full.items own.last.items own.first c.args.i own.paged c.if-i-self.true ∙ ap (λ (xs : List HeapObject). option_map has_gone (slice_get xs (c.args.i - own.first))) (sym c.as_slice.ensures.value) in
    on_err c.size_own.result (λ g. here ∙ g) c.size_own.ensures.gone

pub returns-in-Some-clause-found : goal.returns-in-Some-clause-found
returns-in-Some-clause-found c =
    let own = c.args.self.now in
    let k : c.args.i / page_size < length c.deref.result.now = subst (λ (ps : List Page). c.args.i / page_size < length ps) (sym c.deref.ensures.value) (page_there own.full.items own.first c.args.i own.paged (omega (arith, c.if-i-self.false))) in
    let got = ap (λ (ps : List Page). slice_get ps (c.args.i / page_size)) (sym c.deref.ensures.value) ∙ slice_get_read c.deref.result.now (length c.deref.result.now) (c.args.i / page_size) c.in-Some.page.now refl k c.in-Some.ensures.lookup.1 in
    subst (λ o. IfOk c.size.result (λ n. n ≡ found_bytes o)) (sym (object_there own.full.items (map standing_of own.last.items) c.args.i c.in-Some.page.now got)) c.size.ensures.found

pub returns-in-Some-clause-counted : goal.returns-in-Some-clause-counted
returns-in-Some-clause-counted c =
    let own = c.args.self.now in
    let k : c.args.i / page_size < length c.deref.result.now = subst (λ (ps : List Page). c.args.i / page_size < length ps) (sym c.deref.ensures.value) (page_there own.full.items own.first c.args.i own.paged (omega (arith, c.if-i-self.false))) in
    let got = ap (λ (ps : List Page). slice_get ps (c.args.i / page_size)) (sym c.deref.ensures.value) ∙ slice_get_read c.deref.result.now (length c.deref.result.now) (c.args.i / page_size) c.in-Some.page.now refl k c.in-Some.ensures.lookup.1 in
    subst (λ o. IfOk c.size.result (λ n. n ≡ copy_bytes o)) (sym (standing_there own.full.items (map standing_of own.last.items) c.args.i c.in-Some.page.now got)) c.size.ensures.counted

pub returns-in-Some-clause-gone : goal.returns-in-Some-clause-gone
returns-in-Some-clause-gone c =
    let own = c.args.self.now in
    let k : c.args.i / page_size < length c.deref.result.now = subst (λ (ps : List Page). c.args.i / page_size < length ps) (sym c.deref.ensures.value) (page_there own.full.items own.first c.args.i own.paged (omega (arith, c.if-i-self.false))) in
    let got = ap (λ (ps : List Page). slice_get ps (c.args.i / page_size)) (sym c.deref.ensures.value) ∙ slice_get_read c.deref.result.now (length c.deref.result.now) (c.args.i / page_size) c.in-Some.page.now refl k c.in-Some.ensures.lookup.1 in
    let here = ap (option_map is_gone) (standing_there own.full.items (map standing_of own.last.items) c.args.i c.in-Some.page.now got) in
    on_err c.size.result (λ g. here ∙ g) c.size.ensures.gone
