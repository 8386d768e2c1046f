use Rattle.std.proofs.Common.{List, ℕ, ◌+◌, get_or, drop, sym, ap, ◌∙◌}
use Rattle.values_semantics.specs.Printing.{all_escaped}
use Rattle.values_builtins.specs.TextBuffers.{text_so_far, more}
use Rattle.values_builtins.proofs.TextBufferLaws.{byte_there, escapes, quotes}
use Rattle.values_builtins.proofs.quoting.write_quoted.Goals as goal

pub loop-byte-preserved : goal.loop-byte-preserved
loop-byte-preserved c =
    let o = text_so_far c.loop-byte.out in
    let now = ap (λ (l : List ℕ). more o (all_escaped l)) (sym (byte_there c.args.bytes.now c.loop-byte.byte-index c.loop-byte-test.true)) ∙ c.loop-byte.invariant in
    escapes o (text_so_far c.write_escaped.new.out) _ (get_or c.args.bytes.now c.loop-byte.byte-index 0) (drop (c.loop-byte.byte-index + 1) c.args.bytes.now) now c.in_ok-write_escaped.ensures

pub returns : goal.returns
returns c = quotes (text_so_far c.args.out.now) (text_so_far c.write.new.self) (text_so_far c.loop-byte.out) (text_so_far c.write-2.new.self) c.args.bytes.now c.loop-byte.byte-index c.loop-byte-test.false c.loop-byte.invariant c.in_ok-write-2.ensures
