use Rattle.std.proofs.Common.{◌∙◌, sym, arith}
use Rattle.syntax_tokens.proofs.Words.{by_length}
use Rattle.syntax_tokens.proofs.word.word_of.Goals as goal

pub returns-in-2 : goal.returns-in-2
returns-in-2 c = c.word_of_two.ensures ∙ sym (by_length c.args.bytes.now 2 (omega arith))

pub returns-in-3 : goal.returns-in-3
returns-in-3 c = c.word_of_three.ensures ∙ sym (by_length c.args.bytes.now 3 (omega arith))

pub returns-in-4 : goal.returns-in-4
returns-in-4 c = c.word_of_four.ensures ∙ sym (by_length c.args.bytes.now 4 (omega arith))

pub returns-in-5 : goal.returns-in-5
returns-in-5 c = c.word_of_five.ensures ∙ sym (by_length c.args.bytes.now 5 (omega arith))

pub returns-in-6 : goal.returns-in-6
returns-in-6 c = c.word_of_six.ensures ∙ sym (by_length c.args.bytes.now 6 (omega arith))

pub returns-in-7 : goal.returns-in-7
returns-in-7 c = c.word_of_seven.ensures ∙ sym (by_length c.args.bytes.now 7 (omega arith))

pub returns-in-8 : goal.returns-in-8
returns-in-8 c = c.word_of_eight.ensures ∙ sym (by_length c.args.bytes.now 8 (omega arith))
