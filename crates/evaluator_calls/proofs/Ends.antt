-- What the evaluation of a file leaves.
use Rattle.std.proofs.Common.{◌≡◌, ℕ, List, [], ◌∷◌, Option, Some, None, Result, Err, Vec, Global, refl, ap, sym, subst, ◌∙◌}
use Rattle.values_objects.specs.declared.halt.Halt.{Halt}
use Rattle.values_objects.specs.declared.halt.Halt.TheVariants.{Code, Memory}
use Rattle.values_heap.specs.View.{SaysItems}
use Rattle.values_semantics.specs.declared.val.Val.{Val}
use Rattle.values_semantics.specs.Outcome.{Out, gives, faults, Does, and_then, good}
use Rattle.values_semantics.specs.Outcome as m
use Rattle.values_semantics.specs.Heap.{Store}
use Rattle.values_semantics.specs.Freezing.{freezes}
use Rattle.syntax_tree.specs.Tree.{Fn, Fi, Tp}
use Rattle.values_modules.specs.Values.{Frozen, Defaults, ModuleValue, Body}
use Rattle.evaluator_semantics.specs.World.{World, Block, Names, Here, Runs, ended, at_site, then_runs, pure, or_fault, on_heap, ◌>>=◌}
use Rattle.evaluator_semantics.specs.Names.{top_names, names_once, all_unbound, names_at, file_slot, slot_in}
use Rattle.evaluator_semantics.specs.Environment.{Env, defs, defaults_among}
use Rattle.evaluator_semantics.specs.Modules.{each_once, all_bodies}
use Rattle.evaluator_semantics.specs.Files.{frozen_names, frozen_defaults, frozen_loads, frozen_module}
use Rattle.evaluator_state.specs.declared.state.Slot.{Slot}
use Rattle.evaluator_state.specs.View.{slots_of, Ran}
use Rattle.evaluator_calls.specs.Freeze.{freeze_values, freeze_names, freeze_defaults, bound_value, block_among, slot_names}
use Rattle.evaluator_calls.proofs.Worlds.{site_then}

slot_same : (x : List ℕ) (n : Option Names) → file_slot x n ≡ slot_in x (block_among n)
slot_same x None = refl
slot_same x (Some n) = refl

bound_then : (here : Here) (w : World) (o : Option (Option Val)) (k : Val → Runs (List Frozen)) (l : Val → Does Store (List Frozen)) → ((y : Val) → k y w ≡ at_site here.site w (l y w.store)) → then_runs (or_fault 4 o here w) (λ bound. or_fault 4 bound here >>= k) ≡ at_site here.site w (and_then (m.or_fault 4 (bound_value o) w.store) l)
bound_then here w None k l h = refl
bound_then here w (Some None) k l h = refl
bound_then here w (Some (Some y)) k l h = h y

names_are : (xs : List (List ℕ)) (here : Here) (w : World) → frozen_names xs here w ≡ at_site here.site w (freeze_names (block_among (names_at here.label w.files)) xs w.store)
names_are [] here w = refl
names_are (x ∷ xs) here w =
    let n = names_at here.label w.files in
    let k = λ (y : Val). on_heap here (freezes y) >>= λ f. frozen_names xs here >>= λ fs. pure (record { name = x; value = f } ∷ fs) in
    ap (λ o. then_runs (or_fault 4 o here w) (λ bound. or_fault 4 bound here >>= k)) (slot_same x n)
    ∙ bound_then here w (slot_in x (block_among n)) k _ (λ y. site_then here w (freezes y w.store) _ _ (λ f s.
    let u = record w { store = s } in
    ap (λ o. then_runs o (λ fs. pure (record { name = x; value = f } ∷ fs))) (names_are xs here u)
    ∙ site_then here u (freeze_names (block_among n) xs s) _ _ (λ fs t. refl)))

defaults_are : (fs : List Fn) (here : Here) (w : World) → frozen_defaults fs here w ≡ at_site here.site w (freeze_defaults (names_at here.label w.files) fs w.store)
defaults_are [] here w = refl
defaults_are (f ∷ fs) here w =
    let n = names_at here.label w.files in
    site_then here w (freeze_values (defaults_among f.name n) w.store) _ _ (λ xs s.
    let u = record w { store = s } in
    ap (λ o. then_runs o (λ rest. pure (record { name = f.name; values = xs } ∷ rest))) (defaults_are fs here u)
    ∙ site_then here u (freeze_defaults n fs s) _ _ (λ rest t. refl))

abbrev pub left_by : Env → List Frozen → List Defaults → ModuleValue
left_by env own defaults = record {
  body = record { label = env.label; path = env.path; own = own; loaded = frozen_loads env.file.loads env.loads; functions = defs env.file.tops; defaults = defaults };
  reached = each_once [] (all_bodies env.loads);
}

abbrev rest_of : Env → Here → List Frozen → Runs ModuleValue
rest_of env here own = frozen_defaults (defs env.file.tops) here >>= λ defaults. pure (left_by env own defaults)

own_done : (env : Env) (here : Here) (w : World) (o : Out Store (List Frozen)) → freeze_names (block_among (names_at here.label w.files)) (names_once [] (top_names env.file.tops)) w.store ≡ o → frozen_module env here w ≡ then_runs (at_site here.site w o) (rest_of env here)
own_done env here w o e = ap (λ p. then_runs p (rest_of env here)) (names_are (names_once [] (top_names env.file.tops)) here w ∙ ap (λ p. at_site here.site w p) e)

rest_done : (env : Env) (here : Here) (own : List Frozen) (w : World) (o : Out Store (List Defaults)) → freeze_defaults (names_at here.label w.files) (defs env.file.tops) w.store ≡ o → rest_of env here own w ≡ then_runs (at_site here.site w o) (λ defaults. pure (left_by env own defaults))
rest_done env here own w o e = ap (λ p. then_runs p (λ defaults. pure (left_by env own defaults))) (defaults_are (defs env.file.tops) here w ∙ ap (λ p. at_site here.site w p) e)

firsts : Block → List (List ℕ)
firsts [] = []
firsts (p ∷ ps) = p.0 ∷ firsts ps

firsts_unbound : (xs : List (List ℕ)) → firsts (all_unbound xs) ≡ xs
unfolding firsts
firsts_unbound [] = refl
firsts_unbound (x ∷ xs) = ap (λ l. x ∷ l) (firsts_unbound xs)

firsts_slots : (slots : List Slot) → firsts (slots_of slots) ≡ slot_names slots
unfolding firsts
firsts_slots [] = refl
firsts_slots (s ∷ ss) = ap (λ l. s.name ∷ l) (firsts_slots ss)

-- the names of a block of which none is bound
pub slots_named : (slots : List Slot) (names : List (List ℕ)) → good (all_unbound names) ≡ good (slots_of slots) → slot_names slots ≡ names
slots_named slots names e =
    let same : all_unbound names ≡ slots_of slots = cc in
    sym (firsts_slots slots) ∙ ap firsts (sym same) ∙ firsts_unbound names

pub module_ends : (env : Env) (here : Here) (w : World) (own : List Frozen) (defaults : List Defaults) (s t : Store) → freeze_names (block_among (names_at here.label w.files)) (names_once [] (top_names env.file.tops)) w.store ≡ gives own s → freeze_defaults (names_at here.label w.files) (defs env.file.tops) s ≡ gives defaults t → frozen_module env here w ≡ ended (left_by env own defaults) (record w { store = t })
module_ends env here w own defaults s t e f = own_done env here w (gives own s) e ∙ rest_done env here own (record w { store = s }) (gives defaults t) f

pub own_fails : (env : Env) (here : Here) (w u : World) (s : Store) (halt : Halt) → SaysItems (freeze_names (block_among (names_at here.label w.files)) (names_once [] (top_names env.file.tops)) w.store) (Err halt) s → Ran here.site (frozen_module env here w) (Err halt) u
own_fails env here w u s (Code c) e = own_done env here w (faults c) e
own_fails env here w u s (Memory _) e = tt

pub defaults_fail : (env : Env) (here : Here) (w u : World) (own : List Frozen) (s t : Store) (halt : Halt) → freeze_names (block_among (names_at here.label w.files)) (names_once [] (top_names env.file.tops)) w.store ≡ gives own s → SaysItems (freeze_defaults (names_at here.label w.files) (defs env.file.tops) s) (Err halt) t → Ran here.site (frozen_module env here w) (Err halt) u
defaults_fail env here w u own s t (Code c) e f = own_done env here w (gives own s) e ∙ rest_done env here own (record w { store = s }) (faults c) f
defaults_fail env here w u own s t (Memory _) e f = tt

-- ---- facts under other names of what they are about

pub globals_fact : (fs : List Names) (label : List ℕ) (ns ms : List (List ℕ)) (s t : Store) (r : Result (Vec Frozen Global) Halt) → ns ≡ ms → SaysItems (freeze_names (block_among (names_at label fs)) ns s) r t → SaysItems (freeze_names (block_among (names_at label fs)) ms s) r t
globals_fact fs label ns ms s t r e h = subst (λ (l : List (List ℕ)). SaysItems (freeze_names (block_among (names_at label fs)) l s) r t) e h

pub functions_fact : (fs : List Names) (label : List ℕ) (ns ms : List Tp) (s t : Store) (r : Result (Vec Defaults Global) Halt) → ns ≡ ms → SaysItems (freeze_defaults (names_at label fs) (defs ns) s) r t → SaysItems (freeze_defaults (names_at label fs) (defs ms) s) r t
functions_fact fs label ns ms s t r e h = subst (λ (l : List Tp). SaysItems (freeze_defaults (names_at label fs) (defs l) s) r t) e h

abbrev pub body_with : List Frozen → List Defaults → List ℕ → List ℕ → Fi → List ModuleValue → Body
body_with own defaults label path file loads = record { label = label; path = path; own = own; loaded = frozen_loads file.loads loads; functions = defs file.tops; defaults = defaults }

abbrev left_with : List Frozen → List Defaults → List ℕ → List ℕ → Fi → List ModuleValue → ModuleValue
left_with own defaults label path file loads = record { body = body_with own defaults label path file loads; reached = each_once [] (all_bodies loads) }

abbrev loaded_of : Body → List Body → ModuleValue
loaded_of body reached = record { body = body; reached = reached }

pub left_is : (env : Env) (own : List Frozen) (defaults : List Defaults) (label path : List ℕ) (file : Fi) (loads : List ModuleValue) (body : Body) (reached : List Body) (made : ModuleValue) → env.label ≡ label → env.path ≡ path → env.file ≡ file → env.loads ≡ loads → made ≡ record { body = body; reached = reached } → body ≡ body_with own defaults label path file loads → reached ≡ each_once [] (all_bodies loads) → left_by env own defaults ≡ made
left_is env own defaults label path file loads body reached made a b c d is first second =
    let here : left_by env own defaults ≡ left_with own defaults label path file loads = λ i. left_with own defaults (a i) (b i) (c i) (d i) in
    let there : loaded_of body reached ≡ left_with own defaults label path file loads = λ i. loaded_of (first i) (second i) in
    here ∙ sym (is ∙ there)
