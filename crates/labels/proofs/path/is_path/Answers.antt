use Rattle.std.proofs.Common.{rules, tests, arith, ◌≡◌, ◌∙◌, ◌-◌, ◌<◌, ◌∷◌, ◌&&◌, suc, true, length, sym, ap, subst, drop, drop-cons, get_or, None, Some}
use Rattle.std.specs.Prelude.{nat_le}
use Rattle.std.specs.List.{list_all}
use Rattle.labels.specs.Paths as paths
use Rattle.labels.proofs.Reading.{path_read, none_before, read, step, ends}
use Rattle.labels.proofs.path.is_path.Goals as goal

pub returns-in-None : goal.returns-in-None
returns-in-None c =
    let text = c.args.text.now in
    let bytes = c.as_bytes-bytes.result.now in
    let i = c.loop-i.i in
    let byte = get_or bytes (i - 1) 0 in
    let short : nat_le (length text) 255 ≡ true = search (rules, tests) in
    let next : suc (i - 1) ≡ i = let t = c.loop-i-test.true in omega (arith, t) in
    let within : i - 1 < length bytes = let t = c.loop-i-test.true in let a = c.loop-i.auto.i in omega (arith, t, a) in
    let here : drop (i - 1) bytes ≡ byte ∷ drop i bytes = drop-cons bytes (i - 1) 0 within ∙ ap (λ n. byte ∷ drop n bytes) next in
    let none : read (drop (i - 1) bytes) ≡ None = ap read here ∙ ap (step byte) c.loop-i.invariant ∙ sym c.read_byte.ensures ∙ c.in-None.is in
    sym (ap (λ s. s && list_all paths.is_segment (paths.segments text)) short ∙ path_read text ∙ ap ends (ap read (sym c.as_bytes-bytes.ensures.value) ∙ none_before (i - 1) bytes none))

pub returns : goal.returns
returns c =
    let text = c.args.text.now in
    let bytes = c.as_bytes-bytes.result.now in
    let short : nat_le (length text) 255 ≡ true = search (rules, tests) in
    let begun : c.loop-i.i ≡ 0 = let t = c.loop-i-test.false in omega (arith, t) in
    let all : read bytes ≡ Some c.loop-i.found = subst (λ n. read (drop n bytes) ≡ Some c.loop-i.found) begun c.loop-i.invariant in
    sym (ap (λ s. s && list_all paths.is_segment (paths.segments text)) short ∙ path_read text ∙ ap ends (ap read (sym c.as_bytes-bytes.ensures.value) ∙ all))
