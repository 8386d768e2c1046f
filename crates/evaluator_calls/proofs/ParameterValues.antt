-- One parameter more has its value.
use Rattle.std.proofs.Common.{◌≡◌, ◌++◌, ◌+◌, ◌<◌, ℕ, List, [], ◌∷◌, length, map, drop, get_or, drop-cons, add-one, Some, ap, sym, ◌∙◌}
use Rattle.std.proofs.lemmas.List.{map-append}
use Rattle.values_semantics.specs.declared.val.Val.{Val}
use Rattle.values_semantics.specs.Outcome.{ValueOrFault, good}
use Rattle.values_semantics.specs.Functions.{KeywordArguments}
use Rattle.syntax_tree.specs.Statements.{param_of}
use Rattle.syntax_tree.specs.declared.def.Param.{Param}
use Rattle.evaluator_semantics.specs.World.{Block}
use Rattle.evaluator_semantics.specs.Arguments.{other_defaults, parameter_block}
use Rattle.evaluator_state.specs.View.{slot_of}
use Rattle.evaluator_state.specs.declared.state.Slot.{Slot}
use Rattle.evaluator_calls.specs.ParameterValue.{parameter_value}
use Rattle.evaluator_calls.proofs.Accepts.{before, given_more}

module _ (params : List Param) (i : ℕ) (p : Param) (is_there : i < length params) (is : p ≡ get_or params i p) (ns : KeywordArguments) where
  next : map param_of (drop i params) ≡ param_of p ∷ map param_of (drop (i + 1) params)
  next = ap (map param_of) (rw add-one (drop-cons params i p is_there) ∙ ap (λ q. q ∷ drop (i + 1) params) (sym is))

  -- its value is put after the block, and what is left follows it
  pub given_next : (old new : List Slot) (s : Slot) (x : Val) (xs rest ds others : List Val) (whole : ValueOrFault Block) → parameter_value (param_of p) xs ns ds ≡ good x → s.name ≡ p.name → s.value ≡ Some x → new ≡ old ++ s ∷ []
      → rest ≡ drop 1 xs → others ≡ other_defaults (param_of p) ds
      → before (map slot_of old) (parameter_block (map param_of (drop i params)) xs ns ds) ≡ whole → before (map slot_of new) (parameter_block (map param_of (drop (i + 1) params)) rest ns others) ≡ whole
  given_next old new s x xs rest ds others whole gives named valued added left defaults so_far =
      let one : slot_of s ≡ ((param_of p).name, Some x) = (λ j. (named j, valued j)) in
      let block : map slot_of new ≡ map slot_of old ++ ((param_of p).name, Some x) ∷ [] = ap (map slot_of) added ∙ map-append slot_of old (s ∷ []) ∙ ap (λ y. map slot_of old ++ y ∷ []) one in
      (λ j. before (block j) (parameter_block (map param_of (drop (i + 1) params)) (left j) ns (defaults j)))
      ∙ sym (given_more (map slot_of old) (param_of p) (map param_of (drop (i + 1) params)) xs ns ds x gives)
      ∙ ap (λ ps. before (map slot_of old) (parameter_block ps xs ns ds)) (sym next)
      ∙ so_far
