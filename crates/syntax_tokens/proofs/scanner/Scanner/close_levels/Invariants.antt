use Rattle.std.proofs.Common.{◌≡◌, ◌++◌, vec_len}
use Rattle.syntax_tokens.specs.Lines.{open_levels, dedents}
use Rattle.syntax_tokens.specs.View.{state_of, said_by}
use Rattle.syntax_tokens.proofs.scanner.Scanner.close_levels.Given as goal

abbrev pub invariant-levels : goal.invariant-levels
invariant-levels l = record {
  line : l.self.line ≡ l.fn.self.line;
  spaces : l.self.spaces ≡ l.fn.self.spaces;
  state : record (state_of l.self) { levels = open_levels l.spaces (state_of l.self).levels } ≡ record (state_of l.fn.self) { levels = open_levels l.spaces (state_of l.fn.self).levels };
  said : said_by l.self ++ dedents l.self.line l.spaces (state_of l.self).levels ≡ said_by l.fn.self ++ dedents l.fn.self.line l.spaces (state_of l.fn.self).levels;
}

abbrev pub decreases-levels : goal.decreases-levels
decreases-levels l = vec_len l.self.levels
