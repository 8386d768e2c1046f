-- Further answers change nothing that was made of those before them.
use Rattle.std.proofs.Common.{◌≡◌, ◌≤◌, ◌∙◌, ap, sym, refl, arith, List, [], ◌∷◌, ◌++◌, length, map, ℕ, cond, Some, Result, IfOk}
use Rattle.base_types.specs.declared.memory.Memory.{Memory}
use Rattle.std.proofs.lemmas.List.{append-nil}
use Rattle.keys.specs.Keys.{key_eq}
use Rattle.keys.specs.declared.key.Key.{Key}
use Rattle.keys.specs.declared.value.Value.{Value}
use Rattle.functions.specs.declared.reply.FileTurn as made
use Rattle.functions.specs.declared.reply.FileTurn.TheVariants as reply
use Rattle.functions.specs.Goes.{Table, Follows, IsMade}
use Rattle.functions.specs.Once.{answer_at}
use Rattle.functions.specs.Sources.{each_or_fault, module_in, all_modules, paths_or_none, paths_by}
use Rattle.functions.proofs.SourceSteps.{weaken}

-- ---- the answers of a group

answer_more : (k : Key) (group : List Key) (answers more : List Value) → length group ≤ length answers → answer_at k group (answers ++ more) ≡ answer_at k group answers
answer_more k [] answers more h = refl
answer_more k (j ∷ group) [] more h = absurd (omega (arith, h))
answer_more k (j ∷ group) (answer ∷ answers) more h = ap (λ rest. cond (key_eq k j) (Some answer) rest) (answer_more k group answers more (omega (arith, h)))

pub paths_more : (group keys : List Key) (answers more : List Value) → length group ≤ length answers → paths_by group keys (answers ++ more) ≡ paths_by group keys answers
paths_more group keys answers more h = λ i. map (λ k. paths_or_none (answer_more k group answers more h i)) keys

pub modules_more : (path : List ℕ) (group keys : List Key) (answers more : List Value) → length group ≤ length answers → all_modules path group keys (answers ++ more) ≡ all_modules path group keys answers
modules_more path group keys answers more h = λ i. each_or_fault (λ k. module_in path (answer_more k group answers more h i)) keys

-- ---- what is made of answers

module _ (next : Table) (answers : List Value) (later : Table) (rest : List Value) (goes : Follows next answers later rest) where
  here : next answers ≡ later rest
  here = ap next (sym (append-nil answers)) ∙ goes [] ∙ ap later (append-nil rest)

  -- what another table makes of other answers is made of these, if that table continues after them
  pub carried : (r : made.FileTurn) → IsMade later rest r → IsMade next answers r
  carried (reply.Ask group) h = here ∙ h
  carried (reply.Done v) h = here ∙ h
  carried (reply.Wait group held) h = (here ∙ h.0, record { may = h.1.may; goes = λ more. goes more ∙ h.1.goes more })

  pub carried_on : (result : Result made.FileTurn Memory) → IfOk result (IsMade later rest) → IfOk result (IsMade next answers)
  carried_on result = weaken (IsMade later rest) (IsMade next answers) result carried
