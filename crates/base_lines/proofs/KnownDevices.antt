-- A reader at its end stays there.
use Rattle.std.proofs.Common.{◌≡◌, ◌∙◌, sym, subst, List, ℕ, [], ◌∷◌, ◌++◌, None, Some, OnSome}
use Rattle.std.specs.Prelude.{Option}
use Rattle.std.proofs.KnownBytes.{Consumes-trans}
use Rattle.std.specs.Io.KnownBytes.{Consumes, IsAtEnd, Keeps}

nothing_beyond : (bytes left : List ℕ) → [] ≡ bytes ++ left → left ≡ []
nothing_beyond [] left e = sym e
nothing_beyond (b ∷ bytes) left e = absurd (cc e)

-- a history grows by what was read
pub reads_more : (first before after : Option (List ℕ)) (told now bytes : List ℕ) → now ≡ told ++ bytes → Consumes first before told → Consumes before after bytes → Consumes first after now
reads_more first before after told now bytes e p q = subst (Consumes first after) (sym e) (Consumes-trans first before after told bytes p q)

-- nothing remains after a read where nothing remained before
pub at_end_stays : (first before after : Option (List ℕ)) (told bytes : List ℕ) → Consumes first before told → Consumes before after bytes → OnSome first (IsAtEnd before) → OnSome first (IsAtEnd after)
at_end_stays None before after told bytes p q end = tt
at_end_stays (Some xs) None after told bytes p q end = absurd p
at_end_stays (Some xs) (Some ys) None told bytes p q end = absurd q
at_end_stays (Some xs) (Some ys) (Some zs) told bytes p q end = nothing_beyond bytes zs (sym end ∙ q)

-- and after a read that failed
pub at_end_kept : (first before after : Option (List ℕ)) (told : List ℕ) → Consumes first before told → Keeps before after → OnSome first (IsAtEnd before) → OnSome first (IsAtEnd after)
at_end_kept None before after told p q end = tt
at_end_kept (Some xs) None after told p q end = absurd p
at_end_kept (Some xs) (Some ys) None told p q end = absurd q
at_end_kept (Some xs) (Some ys) (Some zs) told p q end = q ∙ end
