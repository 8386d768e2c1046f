-- How the counts of the nesting continue along the tokens, where no token is nested deeper than 64.
use Rattle.std.proofs.Common.{◌≡◌, ℕ, suc, ◌+◌, ◌≤◌, List, ◌∷◌, length, Bool, true, false, cond, refl, sym, ap, subst, arith}
use Rattle.std.specs.Prelude.{nat_lt}
use Rattle.std.proofs.lemmas.Bool.Decides.{nat_tests}
use Rattle.syntax_tokens.specs.declared.symbol.Symbol.{Symbol}
use Rattle.syntax_tokens.specs.declared.symbol.Symbol.TheVariants as s
use Rattle.syntax_tokens.specs.Token.{Tok, Lex}
use Rattle.syntax_tokens.specs.Nesting.{Nesting, role, role_of, with_role, depth, sum_of, too_deep}
use Rattle.syntax_grammar.specs.Grammar.{IsToken}

abbrev pub at : ℕ → List ℕ → Nesting
at i counts = record { indents = i; counts = counts }

-- The counts before tokens: this many open indentations, the count of the present item, and the counts of the levels
-- around.
pub record Fits (i c : ℕ) (o : List ℕ) (ts : List Lex) : Type 0 where
  pub shallow : too_deep (at i (c ∷ o)) ts ≡ false
  pub low : i + (c + sum_of o) ≤ 64

pub record Next (n : Nesting) (us : List Lex) : Type 0 where
  pub low : depth n ≤ 64
  pub shallow : too_deep n us ≡ false

next_if : (n : Nesting) (us : List Lex) (b : Bool) → nat_lt 64 (depth n) ≡ b → cond b true (too_deep n us) ≡ false → Next n us
next_if n us true e h = cc
next_if n us false e h = record { low = grind (arith, nat_tests); shallow = h }

next : (n : Nesting) (x : Lex) (us : List Lex) → too_deep n (x ∷ us) ≡ false → Next (with_role (role_of x.token) n) us
unfolding too_deep
next n x us h = next_if (with_role (role_of x.token) n) us (nat_lt 64 (depth (with_role (role_of x.token) n))) refl h

pub next_at : {ts us : List Lex} {found : Tok} (n : Nesting) (like : Symbol) → IsToken found ts us → role_of found ≡ role like → too_deep n ts ≡ false → Next (with_role (role like) n) us
next_at {ts} {us} {found} n like is e h =
    subst (λ x. Next (with_role x n) us) e (next n (record { token = found; line = is.0 }) us (subst (λ x. too_deep n x ≡ false) is.1 h))

-- ---- what a front of tokens does to the counts

-- Reading from ts to rest leaves the levels around as they are, the present item's count at b or more, and at least k
-- tokens fewer.
pub record Went (k b i : ℕ) (o : List ℕ) (ts rest : List Lex) : Type 0 where
  pub count : ℕ
  pub more : b ≤ count
  pub fits : Fits i count o rest
  pub shorter : k + length rest ≤ length ts

pub one_shorter : {ts us : List Lex} {found : Tok} → IsToken found ts us → suc (length us) ≡ length ts
one_shorter {ts} {us} {found} is = sym (ap (λ xs. length {A = Lex} xs) is.1)

module _ {k b i : ℕ} {o : List ℕ} {ts us vs : List Lex} {found : Tok} where
  -- a token that does not count
  pub passed : Went k b i o ts us → IsToken found us vs → role_of found ≡ role s.Colon → Went 1 b i o ts vs
  passed w is e =
      let n = next_at (at i (w.count ∷ o)) s.Colon is e w.fits.shallow in
      let one = one_shorter is in
      record { count = w.count; more = w.more; fits = record { shallow = n.shallow; low = n.low }; shorter = omega (arith, one, w.shorter) }

  -- one that counts
  pub counted : Went k b i o ts us → IsToken found us vs → role_of found ≡ role s.Plus → Went 1 b i o ts vs
  counted w is e =
      let n = next_at (at i (w.count ∷ o)) s.Plus is e w.fits.shallow in
      let one = one_shorter is in
      record { count = w.count + 1; more = omega (arith, w.more); fits = record { shallow = n.shallow; low = n.low }; shorter = omega (arith, one, w.shorter) }

  pub counted_one : Went k b i o ts us → IsToken found us vs → role_of found ≡ role s.Plus → Went 1 (b + 1) i o ts vs
  counted_one w is e =
      let n = next_at (at i (w.count ∷ o)) s.Plus is e w.fits.shallow in
      let one = one_shorter is in
      record { count = w.count + 1; more = omega (arith, w.more); fits = record { shallow = n.shallow; low = n.low }; shorter = omega (arith, one, w.shorter) }

  -- a comma
  pub separated : Went k b i o ts us → IsToken found us vs → role_of found ≡ role s.Comma → Went 1 0 i o ts vs
  separated w is e =
      let n = next_at (at i (w.count ∷ o)) s.Comma is e w.fits.shallow in
      let one = one_shorter is in
      record { count = 0; more = omega arith; fits = record { shallow = n.shallow; low = n.low }; shorter = omega (arith, one, w.shorter) }

  -- an opening bracket
  pub opened : (w : Went k b i o ts us) → IsToken found us vs → role_of found ≡ role s.LeftParen → Fits i 0 ((w.count + 1) ∷ o) vs
  opened w is e =
      let n = next_at (at i (w.count ∷ o)) s.LeftParen is e w.fits.shallow in
      record { shallow = n.shallow; low = n.low }

-- a bracket, what is inside, and its closing one
pub closed : {k b i j b' : ℕ} {o : List ℕ} {ts us vs ws rest : List Lex} {open_token close_token : Tok}
    → (w : Went k b i o ts us) → IsToken open_token us vs → Went j b' i ((w.count + 1) ∷ o) vs ws → IsToken close_token ws rest → role_of close_token ≡ role s.RightParen → Went 1 b i o ts rest
closed {i} {o} w is inner close e =
    let n = next_at (at i (inner.count ∷ (w.count + 1) ∷ o)) s.RightParen close e inner.fits.shallow in
    let one = one_shorter is in
    let two = one_shorter close in
    record { count = w.count + 1; more = omega (arith, w.more); fits = record { shallow = n.shallow; low = n.low }; shorter = omega (arith, one, two, w.shorter, inner.shorter) }

pub begins : {i c : ℕ} {o : List ℕ} {ts : List Lex} → Fits i c o ts → Went 0 c i o ts ts
begins {c} f = record { count = c; more = omega arith; fits = f; shorter = omega arith }

-- ---- one part after another

module _ {k b i : ℕ} {o : List ℕ} {ts us vs : List Lex} where
  pub after : Went k b i o ts us → ((c : ℕ) → Fits i c o us → Went 1 c i o us vs) → Went 1 b i o ts vs
  after w f =
      let x = f w.count w.fits in
      record { count = x.count; more = omega (arith, w.more, x.more); fits = x.fits; shorter = omega (arith, w.shorter, x.shorter) }

  -- by a part that may be empty
  pub after_some : Went k b i o ts us → ((c : ℕ) → Fits i c o us → Went 0 c i o us vs) → Went k b i o ts vs
  after_some w f =
      let x = f w.count w.fits in
      record { count = x.count; more = omega (arith, w.more, x.more); fits = x.fits; shorter = omega (arith, w.shorter, x.shorter) }

  -- by a part with commas
  pub after_list : Went k b i o ts us → ((c : ℕ) → Fits i c o us → Went 1 0 i o us vs) → Went 1 0 i o ts vs
  after_list w f =
      let x = f w.count w.fits in
      record { count = x.count; more = omega arith; fits = x.fits; shorter = omega (arith, w.shorter, x.shorter) }

pub after_items : {k i : ℕ} {o : List ℕ} {ts us vs : List Lex} → Went k 0 i o ts us → ((c : ℕ) → Fits i c o us → Went 0 0 i o us vs) → Went k 0 i o ts vs
after_items w f =
    let x = f w.count w.fits in
    record { count = x.count; more = omega arith; fits = x.fits; shorter = omega (arith, w.shorter, x.shorter) }

pub maybe_empty : {k b i : ℕ} {o : List ℕ} {ts us : List Lex} → Went k b i o ts us → Went 0 b i o ts us
maybe_empty w = record { count = w.count; more = w.more; fits = w.fits; shorter = omega (arith, w.shorter) }

pub from_none : {k b i : ℕ} {o : List ℕ} {ts us : List Lex} → Went k b i o ts us → Went k 0 i o ts us
from_none w = record { count = w.count; more = omega arith; fits = w.fits; shorter = w.shorter }
