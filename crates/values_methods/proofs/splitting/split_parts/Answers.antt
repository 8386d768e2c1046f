use Rattle.std.proofs.Common.{ℕ, List, Some, None, ◌∷◌, [], ap, ◌∙◌, refl, subst}
use Rattle.std.proofs.lemmas.List.{map-append}
use Rattle.memchr.specs.Find.{FindsNeedle}
use Rattle.values_methods.specs.Texts.{shown}
use Rattle.values_methods.proofs.Separators.{part_taken, last_taken}
use Rattle.values_methods.proofs.splitting.split_parts.Goals as goal

pub loop-at-preserved : goal.loop-at-preserved
loop-at-preserved c =
    let rest = c.loop-at.rest.now in
    let found = subst (λ (n : List ℕ). FindsNeedle rest n 0 (Some c.in-Some.at)) c.new-finder.ensures c.in-Some.ensures in
    let more = ap shown c.in_ok-push.ensures.items ∙ map-append (λ t. t.now) c.loop-at.all.items (c.split_at.result.0 ∷ []) in
    part_taken c.args.separator.now c.requires (shown c.loop-at.all.items) _ c.args.whole.now rest _ _ _ c.in-Some.at c.loop-at.invariant found c.split_at.ensures.front c.split_at.ensures.back refl more

pub returns : goal.returns
returns c =
    let rest = c.loop-at.rest.now in
    let none = subst (λ (n : List ℕ). FindsNeedle rest n 0 None) c.new-finder.ensures c.in_default.ensures in
    let more = ap shown c.in_ok-push-2.ensures.items ∙ map-append (λ t. t.now) c.loop-at.all.items (c.loop-at.rest ∷ []) in
    last_taken c.args.separator.now c.requires (shown c.loop-at.all.items) _ c.args.whole.now rest c.loop-at.invariant none more
