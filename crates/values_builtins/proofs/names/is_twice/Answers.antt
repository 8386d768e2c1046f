use Rattle.std.proofs.Common.{◌≡◌, ◌-◌, ℕ, List, Bool, true, false, not, get_or, sym, ap, ◌∙◌, arith}
use Rattle.values_semantics.specs.declared.val.Val.{Val}
use Rattle.values_semantics.specs.Functions.{KeywordArguments}
use Rattle.values_builtins.proofs.Pairs.{given_again, still_once, seen_too}
use Rattle.values_builtins.proofs.names.is_twice.Goals as goal

turned : (a b : Bool) → a ≡ not b → b ≡ not a
turned a true e = ap not (sym e)
turned a false e = ap not (sym e)

key_is : (ns : KeywordArguments) (i : ℕ) (n : List ℕ × Val) (key : List ℕ) → n ≡ get_or ns (i - 1) n → key ≡ (get_or ns (i - 1) n).0 → key ≡ n.0
key_is ns i n key is e = e ∙ ap (λ m. m.0) (sym is)

pub returns-then-not-branch : goal.returns-then-not-branch
returns-then-not-branch c =
    let n = c.index-names-i.result in
    let key = key_is c.args.names.now c.loop-i.i n c.in_ok-share.field-0 c.index-names-i.is c.in_ok-share.ensures in
    let there = turned _ _ c.in_ok-insert.ensures.added ∙ ap not c.if-not-branch.true in
    sym (given_again c.args.names.now c.loop-i.i n (omega arith) c.loop-i.invariant.within c.index-names-i.is (rw key at (sym (c.loop-i.invariant.seen c.in_ok-share.field-0) ∙ there)))

pub loop-i-preserved : goal.loop-i-preserved
loop-i-preserved c =
    let n = c.index-names-i.result in
    let key = key_is c.args.names.now c.loop-i.i n c.in_ok-share.field-0 c.index-names-i.is c.in_ok-share.ensures in
    let absent = turned _ _ c.in_ok-insert.ensures.added ∙ ap not c.if-not-branch.false in
    record {
      within = omega arith;
      once = still_once c.args.names.now c.loop-i.i n (omega arith) c.loop-i.invariant.within c.index-names-i.is (rw key at (sym (c.loop-i.invariant.seen c.in_ok-share.field-0) ∙ absent)) c.loop-i.invariant.once;
      seen = λ q. seen_too c.args.names.now c.loop-i.i n (omega arith) c.loop-i.invariant.within c.index-names-i.is q _ _ (rw key at (c.in_ok-insert.ensures.updates.0 q)) (c.loop-i.invariant.seen q);
    }
