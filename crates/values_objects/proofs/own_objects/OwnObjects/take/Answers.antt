use Rattle.std.proofs.Common.{◌≡◌, ◌/◌, IfOk, option_map, map, refl, sym, subst, ap, ◌∙◌}
use Rattle.std.proofs.lemmas.Option.{slice_get_read}
use Rattle.values_objects.specs.Objects.{object_of}
use Rattle.values_objects.specs.Standings.{is_gone, standing_of}
use Rattle.values_objects.specs.Wholes.{page_size}
use Rattle.values_objects.proofs.PagedObjects.{gone_last, object_last, object_there, same_in_page, same_last, standing_there}
use Rattle.values_objects.proofs.ListReads.{on_err}
use Rattle.values_objects.proofs.own_objects.OwnObjects.take.Goals as goal

pub returns-then-i-self-clause-same : goal.returns-then-i-self-clause-same
returns-then-i-self-clause-same c =
    let own = c.args.self.now in
    same_last own.full.items own.last.items c.take_own.new.objects.items c.take_own.ensures.same

pub returns-then-i-self-clause-taken : goal.returns-then-i-self-clause-taken
returns-then-i-self-clause-taken c =
    let own = c.args.self.now in
    subst (λ o. IfOk c.take_own.result (λ found. o ≡ option_map object_of found)) (sym (object_last own.full.items own.last.items own.first c.args.i own.paged c.if-i-self.true)) c.take_own.ensures.taken

pub returns-then-i-self-clause-gone : goal.returns-then-i-self-clause-gone
returns-then-i-self-clause-gone c =
    let own = c.args.self.now in
    on_err c.take_own.result (λ g. gone_last own.full.items own.last.items own.first c.args.i own.paged c.if-i-self.true ∙ g) c.take_own.ensures.gone

pub returns-in-Some-clause-same : goal.returns-in-Some-clause-same
returns-in-Some-clause-same c =
    let own = c.args.self.now in
    let got = slice_get_read own.full.items own.full.len (c.args.i / page_size) c.in-Some.page.now own.full.ok.0 (c.in-Some.ensures.variant.0 refl) c.in-Some.ensures.value in
    same_in_page own.full.items (map standing_of own.last.items) (c.args.i / page_size) c.in-Some.page.now c.take.new.self got c.take.ensures.same

pub returns-in-Some-clause-taken : goal.returns-in-Some-clause-taken
returns-in-Some-clause-taken c =
    let own = c.args.self.now in
    let got = slice_get_read own.full.items own.full.len (c.args.i / page_size) c.in-Some.page.now own.full.ok.0 (c.in-Some.ensures.variant.0 refl) c.in-Some.ensures.value in
    subst (λ o. IfOk c.take.result (λ found. o ≡ option_map object_of found)) (sym (object_there own.full.items (map standing_of own.last.items) c.args.i c.in-Some.page.now got)) c.take.ensures.taken

pub returns-in-Some-clause-gone : goal.returns-in-Some-clause-gone
returns-in-Some-clause-gone c =
    let own = c.args.self.now in
    let got = slice_get_read own.full.items own.full.len (c.args.i / page_size) c.in-Some.page.now own.full.ok.0 (c.in-Some.ensures.variant.0 refl) c.in-Some.ensures.value in
    let here = ap (option_map is_gone) (standing_there own.full.items (map standing_of own.last.items) c.args.i c.in-Some.page.now got) in
    on_err c.take.result (λ g. here ∙ g) c.take.ensures.gone
