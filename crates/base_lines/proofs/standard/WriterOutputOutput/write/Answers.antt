use Rattle.std.proofs.Common.{arith, ◌≡◌, ◌∙◌, ap, sym, List, ℕ, ◌+◌, ◌-◌, ◌≤◌, ◌++◌, take, drop, length, append_assoc, length-drop, length-take}
use Rattle.std.proofs.Math.Seq.{take-add}
use Rattle.std.proofs.lemmas.List.{take_all}
use Rattle.base_lines.proofs.standard.WriterOutputOutput.write.Goals as goal

-- one more part is written
held_more : (base now after bytes : List ℕ) (at n : ℕ) → now ≡ base ++ take at bytes → after ≡ now ++ take n (take (length bytes - at) (drop at bytes)) → after ≡ base ++ take (at + n) bytes
held_more base now after bytes at n h e =
    let all : take (length bytes - at) (drop at bytes) ≡ drop at bytes = take_all (length bytes - at) (drop at bytes) (omega (arith, length-drop at bytes)) in
    e ∙ ap (λ r. r ++ take n (take (length bytes - at) (drop at bytes))) h ∙ append_assoc base (take at bytes) _
    ∙ ap (λ r. base ++ (take at bytes ++ take n r)) all ∙ ap (λ r. base ++ r) (sym (take-add at n bytes))

within_more : (bytes : List ℕ) (at n : ℕ) → at ≤ length bytes → n ≤ length (take (length bytes - at) (drop at bytes)) → at + n ≤ length bytes
within_more bytes at n h k = omega (arith, length-take (length bytes - at) (drop at bytes), length-drop at bytes)

pub loop-at-preserved : goal.loop-at-preserved
loop-at-preserved g c =
    let i = c.loop-at.invariant in
    record {
      within = within_more c.args.bytes.now c.loop-at.at c.in_ok-n.n i.within c.in_ok-n.ensures.count;
      same = c.in_ok-n.ensures.ok ∙ i.same;
      device = c.in_ok-n.ensures.first ∙ i.device;
      held = held_more c.args.self.now.held c.loop-at.self.held c.write_some.new.self.held c.args.bytes.now c.loop-at.at c.in_ok-n.n i.held c.in_ok-n.ensures.held;
    }
