-- How the tokens of a text continue piece by piece.
use Rattle.std.proofs.Common.{◌≡◌, ℕ, ◌-◌, ◌<◌, zero, suc, List, [], ◌∷◌, ◌++◌, length, drop, Option, Some, None, Err, refl, sym, ap, ◌∙◌, arith, append_assoc}
use Rattle.syntax_tokens.specs.declared.scanner.ScanError.{ScanError}
use Rattle.syntax_tokens.specs.declared.scanner.ScanError.TheVariants.{Malformed, Memory}
use Rattle.syntax_tokens.specs.Token.{Lex}
use Rattle.syntax_tokens.specs.Pieces.{Piece, piece_at}
use Rattle.syntax_tokens.specs.Lines.{State, after, tokens_of_part, before, ending, go_to, go_on, scan}
use Rattle.syntax_tokens.specs.View.{Goes, Ends, Scans}

before_twice : (a b : List Lex) (rest : Option (List Lex)) → before (a ++ b) rest ≡ before a (before b rest)
before_twice a b None = refl
before_twice a b (Some rest) = ap Some (append_assoc a b rest)

skips : (s : State) (k : ℕ) (bs : List ℕ) → scan s k bs ≡ scan s 0 (drop k bs)
unfolding scan
skips s zero bs = refl
skips s (suc k) [] = refl
skips s (suc k) (b ∷ bs) = skips s k bs

abbrev rest_of : List ℕ → State → ℕ → Option (List Lex)
rest_of bs = λ next skip. scan next skip bs

-- one piece
one : (s next : State) (b : ℕ) (bs : List ℕ) (p : Piece) → piece_at (b ∷ bs) ≡ Some p → after s p ≡ Some next → scan s 0 (b ∷ bs) ≡ before (tokens_of_part s p.part) (scan next (p.len - 1) bs)
unfolding scan
one s next b bs p is goes = ap (go_on s (rest_of bs)) is ∙ ap (go_to (tokens_of_part s p.part) (p.len - 1) (rest_of bs)) goes

no_piece : (s : State) (b : ℕ) (bs : List ℕ) → piece_at (b ∷ bs) ≡ None → scan s 0 (b ∷ bs) ≡ None
unfolding scan
no_piece s b bs is = ap (go_on s (rest_of bs)) is

no_state : (s : State) (b : ℕ) (bs : List ℕ) (p : Piece) → piece_at (b ∷ bs) ≡ Some p → after s p ≡ None → scan s 0 (b ∷ bs) ≡ None
unfolding scan
no_state s b bs p is goes = ap (go_on s (rest_of bs)) is ∙ ap (go_to (tokens_of_part s p.part) (p.len - 1) (rest_of bs)) goes

dropped : (n b : ℕ) (bs : List ℕ) → 0 < n → drop (n - 1) bs ≡ drop n (b ∷ bs)
dropped zero b bs h = absurd (omega arith)
dropped (suc n) b bs h = ap (λ (k : ℕ). drop k bs) (omega arith)

pub goes_on : (front : List Lex) (s next : State) (left : List ℕ) (p : Piece) (whole : Option (List Lex)) → 0 < length left → Some p ≡ piece_at left → 0 < p.len → after s p ≡ Some next → before front (scan s 0 left) ≡ whole → before (front ++ tokens_of_part s p.part) (scan next 0 (drop p.len left)) ≡ whole
goes_on front s next [] p whole lt is len goes w = absurd (omega arith)
goes_on front s next (b ∷ bs) p whole lt is len goes w =
    before_twice front (tokens_of_part s p.part) (scan next 0 (drop p.len (b ∷ bs)))
    ∙ ap (λ (rest : Option (List Lex)). before front (before (tokens_of_part s p.part) rest)) (ap (scan next 0) (sym (dropped p.len b bs len)) ∙ sym (skips next (p.len - 1) bs))
    ∙ ap (before front) (sym (one s next b bs p (sym is) goes)) ∙ w

pub ends_badly : (front : List Lex) (s : State) (left : List ℕ) (whole : Option (List Lex)) → 0 < length left → None ≡ piece_at left → before front (scan s 0 left) ≡ whole → whole ≡ None
ends_badly front s [] whole lt is w = absurd (omega arith)
ends_badly front s (b ∷ bs) whole lt is w = sym w ∙ ap (before front) (no_piece s b bs (sym is))

pub step_stops : (front : List Lex) (s new : State) (left : List ℕ) (p : Piece) (whole : Option (List Lex)) (stop : ScanError) → 0 < length left → Some p ≡ piece_at left → Goes {A = Unit {0}} (after s p) new (Err stop) → before front (scan s 0 left) ≡ whole → Scans whole (Err stop)
step_stops front s new [] p whole stop lt is goes w = absurd (omega arith)
step_stops front s new (b ∷ bs) p whole Malformed lt is goes w = sym w ∙ ap (before front) (no_state s b bs p (sym is) goes)
step_stops front s new (b ∷ bs) p whole (Memory _) lt is goes w = tt

at_end : (s : State) (left : List ℕ) → length left ≡ 0 → scan s 0 left ≡ ending s
unfolding scan
at_end s [] e = refl
at_end s (b ∷ bs) e = absurd (omega arith)

pub end_stops : (front new : List Lex) (s : State) (left : List ℕ) (whole : Option (List Lex)) (stop : ScanError) → length left ≡ 0 → Ends {A = Unit {0}} (ending s) front new (Err stop) → before front (scan s 0 left) ≡ whole → Scans whole (Err stop)
end_stops front new s left whole Malformed e ends w = sym w ∙ ap (before front) (at_end s left e ∙ ends)
end_stops front new s left whole (Memory _) e ends w = tt

pub ends_well : (front new : List Lex) (s : State) (left : List ℕ) (whole : Option (List Lex)) → length left ≡ 0 → before front (ending s) ≡ Some new → before front (scan s 0 left) ≡ whole → whole ≡ Some new
ends_well front new s left whole e ends w = sym w ∙ ap (before front) (at_end s left e) ∙ ends
