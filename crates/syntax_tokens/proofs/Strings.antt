-- How a string continues byte by byte.
use Rattle.std.proofs.Common.{◌≡◌, ℕ, ◌+◌, Bool, true, false, not, ◌&&◌, List, [], ◌∷◌, length, Option, Some, None, refl, sym, ap, ◌∙◌, arith}
use Rattle.syntax_tokens.specs.declared.string_extent.Extent.{Extent}
use Rattle.syntax_tokens.specs.declared.string_extent.StringBody.{StringBody}
use Rattle.syntax_tokens.specs.Strings.{ends, inside, extent, farther}

farther_twice : (n k m j : ℕ) (e : Option Extent) → farther n k (farther m j e) ≡ farther (n + m) (k + j) e
farther_twice n k m j None = refl
farther_twice n k m j (Some e) = grind arith

goes : (long : Bool) (q : ℕ) (escaped : Bool) (b : ℕ) (bs : List ℕ) (i : StringBody) → (not escaped && ends long q (b ∷ bs)) ≡ false → inside long escaped b ≡ Some i → extent long q escaped (b ∷ bs) ≡ farther 1 i.line_ends (extent long q i.escaped bs)
unfolding extent
goes long q escaped b bs i stays e = rw (stays, e) refl

stops : (long : Bool) (q : ℕ) (escaped : Bool) (b : ℕ) (bs : List ℕ) → (not escaped && ends long q (b ∷ bs)) ≡ false → inside long escaped b ≡ None → extent long q escaped (b ∷ bs) ≡ None
unfolding extent
stops long q escaped b bs stays e = rw (stays, e) refl

over : (long : Bool) (q : ℕ) (escaped : Bool) (b : ℕ) (bs : List ℕ) → (not escaped && ends long q (b ∷ bs)) ≡ true → extent long q escaped (b ∷ bs) ≡ Some (record { len = 0; line_ends = 0 })
unfolding extent
over long q escaped b bs here = rw here refl

pub goes_farther : (long : Bool) (q : ℕ) (escaped : Bool) (b : ℕ) (bs left : List ℕ) (i : StringBody) (len k : ℕ) (whole : Option Extent) → left ≡ b ∷ bs → (not escaped && ends long q left) ≡ false → inside long escaped b ≡ Some i → farther len k (extent long q escaped left) ≡ whole → farther (len + 1) (k + i.line_ends) (extent long q i.escaped bs) ≡ whole
goes_farther long q escaped b bs left i len k whole is stays e w =
    sym (farther_twice len k 1 i.line_ends (extent long q i.escaped bs))
    ∙ ap (farther len k) (sym (goes long q escaped b bs i (rw is at stays) e))
    ∙ ap (λ (l : List ℕ). farther len k (extent long q escaped l)) (sym is) ∙ w

pub over_farther : (long : Bool) (q : ℕ) (escaped : Bool) (b : ℕ) (bs left : List ℕ) (len k : ℕ) (whole : Option Extent) → left ≡ b ∷ bs → (not escaped && ends long q left) ≡ true → farther len k (extent long q escaped left) ≡ whole → Some (record { len = len; line_ends = k }) ≡ whole
over_farther long q escaped b bs left len k whole is here w =
    grind arith ∙ ap (farther len k) (sym (over long q escaped b bs (rw is at here)))
    ∙ ap (λ (l : List ℕ). farther len k (extent long q escaped l)) (sym is) ∙ w

pub bad_farther : (long : Bool) (q : ℕ) (escaped : Bool) (b : ℕ) (bs left : List ℕ) (len k : ℕ) (whole : Option Extent) → left ≡ b ∷ bs → (not escaped && ends long q left) ≡ false → inside long escaped b ≡ None → farther len k (extent long q escaped left) ≡ whole → None ≡ whole
bad_farther long q escaped b bs left len k whole is stays e w =
    ap (farther len k) (sym (stops long q escaped b bs (rw is at stays) e))
    ∙ ap (λ (l : List ℕ). farther len k (extent long q escaped l)) (sym is) ∙ w

pub no_farther : (long : Bool) (q : ℕ) (escaped : Bool) (left : List ℕ) (len k : ℕ) (whole : Option Extent) → length left ≡ 0 → farther len k (extent long q escaped left) ≡ whole → None ≡ whole
unfolding extent
no_farther long q escaped [] len k whole is w = w
no_farther long q escaped (b ∷ bs) len k whole is w = absurd (omega arith)
