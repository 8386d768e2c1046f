-- The counts of levels, as sums around each level, and a text's nesting token by token.
use Rattle.std.proofs.Common.{◌≡◌, ℕ, ◌+◌, ◌<◌, ◌≤◌, Bool, true, false, List, [], ◌∷◌, length, get_or, drop, map, reverse, sym, ap, ◌∙◌, arith}
use Rattle.std.proofs.lemmas.List.{drop_more}
use Rattle.std.proofs.Math.ListN.{drop_of_length-le}
use Rattle.std.proofs.lemmas.Bool.Decides.{nat_tests}
use Rattle.syntax_tokens.specs.declared.nesting.Depth.{Depth}
use Rattle.syntax_tokens.specs.declared.token.Lexeme.{Lexeme}
use Rattle.syntax_tokens.specs.Counts.{counts_of, AreOrdered, nesting_of, IsOrdered}
use Rattle.syntax_tokens.specs.Nesting.{Nesting, role_of, with_role, sum_of, depth, too_deep}
use Rattle.syntax_tokens.specs.Token.{Lex, lex_of, tok_of}

sum_is : (total : ℕ) (bs : List ℕ) → AreOrdered total bs → sum_of (counts_of total bs) ≡ total
sum_is total [] h = sym h
sum_is total (b ∷ bs) h = omega (arith, sum_is b bs h.1, h.0)

pub depth_is : (d : Depth) → IsOrdered d → depth (nesting_of d) ≡ d.indents + d.total
depth_is d h = ap (λ (n : ℕ). d.indents + n) (sum_is d.total (reverse d.outer.items) h)

deep : (n : Nesting) (t : Lex) (ts : List Lex) → 64 < depth (with_role (role_of t.token) n) → too_deep n (t ∷ ts) ≡ true
unfolding too_deep
deep n t ts h = grind (arith, nat_tests)

not_deep : (n : Nesting) (t : Lex) (ts : List Lex) → depth (with_role (role_of t.token) n) ≤ 64 → too_deep n (t ∷ ts) ≡ too_deep (with_role (role_of t.token) n) ts
unfolding too_deep
not_deep n t ts h = grind (arith, nat_tests)

next : (i : ℕ) (tokens : List Lexeme) (t : Lexeme) → i < length tokens → t ≡ get_or tokens i t → map lex_of (drop i tokens) ≡ lex_of t ∷ map lex_of (drop (i + 1) tokens)
next i tokens t lt is = ap (map lex_of) (drop_more tokens i t lt) ∙ ap (λ (x : Lexeme). lex_of x ∷ map lex_of (drop (i + 1) tokens)) (sym is)

pub stays_shallow : (i : ℕ) (tokens : List Lexeme) (t : Lexeme) (old new : Depth) (whole : Bool) → i < length tokens → t ≡ get_or tokens i t → nesting_of new ≡ with_role (role_of (tok_of t.token)) (nesting_of old) → IsOrdered new → new.indents + new.total ≤ 64 → too_deep (nesting_of old) (map lex_of (drop i tokens)) ≡ whole → too_deep (nesting_of new) (map lex_of (drop (i + 1) tokens)) ≡ whole
stays_shallow i tokens t old new whole lt is goes ordered few w =
    ap (λ (n : Nesting). too_deep n (map lex_of (drop (i + 1) tokens))) goes
    ∙ sym (not_deep (nesting_of old) (lex_of t) (map lex_of (drop (i + 1) tokens)) (rw (← goes) (omega (arith, depth_is new ordered))))
    ∙ ap (too_deep (nesting_of old)) (sym (next i tokens t lt is)) ∙ w

pub gets_deep : (i : ℕ) (tokens : List Lexeme) (t : Lexeme) (old new : Depth) (whole : Bool) → i < length tokens → t ≡ get_or tokens i t → nesting_of new ≡ with_role (role_of (tok_of t.token)) (nesting_of old) → IsOrdered new → 64 < new.indents + new.total → too_deep (nesting_of old) (map lex_of (drop i tokens)) ≡ whole → true ≡ whole
gets_deep i tokens t old new whole lt is goes ordered much w =
    sym (deep (nesting_of old) (lex_of t) (map lex_of (drop (i + 1) tokens)) (rw (← goes) (omega (arith, depth_is new ordered))))
    ∙ ap (too_deep (nesting_of old)) (sym (next i tokens t lt is)) ∙ w

pub all_shallow : (i : ℕ) (tokens : List Lexeme) (n : Nesting) (whole : Bool) → length tokens ≤ i → too_deep n (map lex_of (drop i tokens)) ≡ whole → false ≡ whole
unfolding too_deep
all_shallow i tokens n whole le w = ap (λ (ts : List Lexeme). too_deep n (map lex_of ts)) (sym (drop_of_length-le tokens le)) ∙ w
