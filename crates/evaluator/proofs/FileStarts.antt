-- Files that begin: the leading string and the loads.
use Rattle.std.proofs.Common.{◌≡◌, ◌<◌, ◌+◌, ℕ, suc, List, ◌∷◌, length, drop, drop-cons, add-one, map, Ok, Err, ap, sym, ◌∙◌}
use Rattle.std.specs.Prelude.{slice_index_or}
use Rattle.values_objects.specs.declared.halt.Halt.{Halt}
use Rattle.values_objects.specs.declared.halt.Halt.TheVariants.{Code, Memory}
use Rattle.values_heap.specs.View.{Says}
use Rattle.values_semantics.specs.Outcome as o
use Rattle.values_semantics.specs.Heap.{Store, walks}
use Rattle.syntax_tree.specs.Statements.{load_of}
use Rattle.syntax_tree.specs.declared.def.LoadStmt.{LoadStmt}
use Rattle.values_modules.specs.Values.{ModuleValue}
use Rattle.evaluator_state.specs.View.{Ran}
use Rattle.evaluator_semantics.specs.World.{World, Here, at_line, at_site, Ends, ended, failed, Runs, then_runs, tick}
use Rattle.evaluator_semantics.specs.Files.{load_items, loads}
use Rattle.evaluator_frames.proofs.Bind.{tick_is, then_assoc}
use Rattle.evaluator.specs.declared.machine.Stop.{Stop}
use Rattle.evaluator.specs.declared.machine.Stop.TheVariants as stops
use Rattle.evaluator.specs.Machines.{Stops, site_at}
use Rattle.evaluator.specs.Files.{load_does, Opened}

-- a step, and what is behind it
pub tick_goes : {A : Type 0} (here : Here) (w : World) (s : Store) (k : Runs A) → Says (walks (λ objects. o.tick) w.store) (Ok tt) s → then_runs (tick here w) (λ _. k) ≡ k (record w { store = s })
tick_goes here w s k e = ap (λ p. then_runs p (λ _. k)) (tick_is here w ∙ ap (λ p. at_site here.site w p) e)

pub tick_stops : {A : Type 0} (here : Here) (w u : World) (s : Store) (k : Runs A) (halt : Halt) → Says {A = Unit {0}} (walks (λ objects. o.tick) w.store) (Err halt) s → Ran here.site (then_runs (tick here w) (λ _. k)) (Err halt) u
tick_stops here w u s k (Code c) e = ap (λ p. then_runs p (λ _. k)) (tick_is here w ∙ ap (λ p. at_site here.site w p) e)
tick_stops here w u s k (Memory _) e = tt

-- a stop that shows where a part stopped
pub opened_stops : (out : Ends (Unit {0})) (path : List ℕ) (line : ℕ) (halt : Halt) (stop : Stop) (w u : World) → Ran {A = Unit {0}} (site_at path line) out (Err halt) w → Stops path line halt stop → Opened out (Err stop) u
opened_stops out path line (Code code) (stops.Fault c p l) w u e h = e ∙ ap (λ d. failed d (site_at path line)) (sym h.0) ∙ ap (λ q. failed c (site_at q line)) (sym h.1) ∙ ap (λ i. failed c (site_at p i)) (sym h.2)
opened_stops out path line (Memory _) (stops.Fault c p l) w u e h = absurd h
opened_stops out path line (Code code) (stops.Memory _) w u e h = tt
opened_stops out path line (Memory _) (stops.Memory _) w u e h = tt

-- the load that is next, and those behind it
module _ (i : ℕ) (statements : List LoadStmt) (modules : List ModuleValue) (here : Here) (w : World) (l : LoadStmt) (m : ModuleValue) (is_l : drop i statements ≡ l ∷ drop (i + 1) statements) (is_m : drop i modules ≡ m ∷ drop (i + 1) modules) where
  abbrev here_on : Ends (Unit {0})
  here_on = loads (map load_of (drop i statements)) (drop i modules) here w

  abbrev behind : Runs (Unit {0})
  behind = loads (map load_of (drop (i + 1) statements)) (drop (i + 1) modules) here

  at_load : here_on ≡ then_runs (load_does m.body (load_of l) here w) (λ _. behind)
  at_load =
      ap (λ (ls : List LoadStmt). loads (map load_of ls) (drop i modules) here w) is_l
      ∙ ap (λ (ms : List ModuleValue). loads (map load_of (l ∷ drop (i + 1) statements)) ms here w) is_m
      ∙ sym (then_assoc (tick (at_line l.line here) w) (λ _. load_items m.body (load_of l).items (at_line l.line here)) (λ _. behind))

  pub load_moves : (u : World) → load_does m.body (load_of l) here w ≡ ended tt u → behind u ≡ here_on
  load_moves u e = sym (at_load ∙ ap (λ p. then_runs p (λ _. behind)) e)

  pub load_fails : (out : Ends (Unit {0})) (u : World) (halt : Halt) → here_on ≡ out → Ran {A = Unit {0}} (at_line l.line here).site (load_does m.body (load_of l) here w) (Err halt) u → Ran {A = Unit {0}} (at_line l.line here).site out (Err halt) u
  load_fails out u (Code c) same e = sym same ∙ at_load ∙ ap (λ p. then_runs p (λ _. behind)) e
  load_fails out u (Memory _) same e = tt

-- one of a list, and those behind it
pub next_of : {A : Type 0} (i : ℕ) (xs : List A) (x d : A) → i < length xs → x ≡ slice_index_or xs i d → drop i xs ≡ x ∷ drop (i + 1) xs
next_of i xs x d lt is = drop-cons xs i d lt ∙ ap (λ y. y ∷ drop (suc i) xs) (sym is) ∙ ap (λ k. x ∷ drop k xs) (sym (add-one i))
