use Rattle.std.proofs.Common.{arith}
use Rattle.std.proofs.lemmas.Bool.Decides.{nat_tests}
use Rattle.std.proofs.lemmas.Str.{IsAscii-drop}
use Rattle.syntax_tokens.specs.View.{state_of, said_by, piece_of}
use Rattle.syntax_tokens.proofs.Scan.{goes_on, ends_badly, step_stops, end_stops, ends_well}
use Rattle.syntax_tokens.proofs.lexer.scan.Goals as goal

pub pieces-preserved : goal.pieces-preserved
pieces-preserved c = record {
  exact = rw (c.in_default.ensures.said, c.split_at.ensures.back) (goes_on (said_by c.pieces.scanner) (state_of c.pieces.scanner) (state_of c.step.new.self) c.pieces.left.now (piece_of c.in-Some.piece) _ (grind (arith, nat_tests)) c.in-Some.ensures.exact c.in-Some.ensures.within.0 c.in_default.ensures.state c.pieces.invariant.exact);
  ascii = rw c.split_at.ensures.back (IsAscii-drop c.pieces.left.now c.in-Some.piece.len c.pieces.invariant.ascii);
  lines = omega (arith, c.in-Some.ensures.within, c.in_default.ensures.line, c.split_at.ensures.back_len);
  spaces = omega (arith, c.in-Some.ensures.within, c.in_default.ensures.spaces, c.split_at.ensures.back_len);
}

pub returns-in-None : goal.returns-in-None
returns-in-None c = ends_badly (said_by c.pieces.scanner) (state_of c.pieces.scanner) c.pieces.left.now _ (grind (arith, nat_tests)) c.in-None.ensures.exact c.pieces.invariant.exact

pub returns-in-Err : goal.returns-in-Err
returns-in-Err c = step_stops (said_by c.pieces.scanner) (state_of c.pieces.scanner) (state_of c.step.new.self) c.pieces.left.now (piece_of c.in-Some.piece) _ c.in-Err.stop (grind (arith, nat_tests)) c.in-Some.ensures.exact c.in-Err.ensures.state c.pieces.invariant.exact

pub returns-in-Err-end : goal.returns-in-Err-end
returns-in-Err-end c = end_stops (said_by c.pieces.scanner) (said_by c.end.new.self) (state_of c.pieces.scanner) c.pieces.left.now _ c.in-Err-end.stop (grind (arith, nat_tests)) c.in-Err-end.ensures c.pieces.invariant.exact

pub returns : goal.returns
returns c = ends_well (said_by c.pieces.scanner) (said_by c.end.new.self) (state_of c.pieces.scanner) c.pieces.left.now _ (grind (arith, nat_tests)) c.in_default-end.ensures c.pieces.invariant.exact
