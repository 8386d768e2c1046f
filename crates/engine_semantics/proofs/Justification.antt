-- Each key that runs is justified to run, and what ends is settled with its groups, by one turn more than groups.
use Rattle.std.proofs.Common.{◌≡◌, ◌≢◌, ◌⊎◌, inl, inr, ℕ, suc, ◌<◌, ◌≤◌, true, List, [], ◌∷◌, ◌++◌, length, Option, Some, None, refl, sym, ◌∙◌, ap, subst, arith}
use Rattle.engine_semantics.specs.Reply.{Reply}
use Rattle.engine_semantics.specs.Value.{HasValue}
use Rattle.engine_semantics.specs.Graph.{Record, Lawful}
use Rattle.engine_semantics.specs.Choices as choices

module _ {K V : Type 0} (next : K → List V → Reply K V) (cycle : List K → V) (reads : ℕ → K → Option V) (touched : ℕ → K → Type 0) (now : ℕ)
    (records : K → Option (Record K V)) (law : Lawful next cycle reads records touched now) (roots : List K) (cs : List (choices.Choice K)) where
  -- the test that the code makes: a settled member's changed version, which is now the present one or that at entry,
  -- against the record's
  pub changed_test : {k j : K} {r s : Record K V} {v : V} {at : ℕ} → records k ≡ Some r → r.dirty ≡ true → records j ≡ Some s → HasValue next (reads now) cycle j v
      → ((s.value ≡ v) × (at ≡ s.changed_at)) ⊎ ((at ≡ now) × (s.value ≢ v)) → r.settled_at < at → choices.Changed next cycle (reads now) records r.settled_at j
  changed_test {r = r} e d f h (inl x) l = let eq = x.1 in choices.before f (omega arith)
  changed_test e d f h (inr x) l = choices.present f h (λ y. x.1 (sym y))

  pub unchanged_test : {k j : K} {r s : Record K V} {v : V} {at : ℕ} → records k ≡ Some r → r.dirty ≡ true → records j ≡ Some s → HasValue next (reads now) cycle j v
      → ((s.value ≡ v) × (at ≡ s.changed_at)) ⊎ ((at ≡ now) × (s.value ≢ v)) → at ≤ r.settled_at → choices.Unchanged next cycle (reads now) records r.settled_at j
  unchanged_test {j = j} {s = s} e d f h (inl x) l = let eq = x.1 in record { of_j = s; recorded = f; early = omega arith; same = subst (λ y. HasValue next (reads now) cycle j y) (sym x.0) h }
  unchanged_test {k = k} {r = r} e d f h (inr x) l = let late = (law.each k r e).late d in let eq = x.0 in absurd (omega arith)
