-- Several targets: what is unpacked, and the first that stops.
use Rattle.std.proofs.Common.{◌≡◌, ℕ, List, ◌∷◌, length, map, ap, sym, ◌∙◌, Err}
use Rattle.std.specs.declared.vec.Vec.{Vec}
use Rattle.std.specs.declared.alloc.Global.{Global}
use Rattle.values_objects.specs.declared.halt.Halt.{Halt}
use Rattle.values_objects.specs.declared.halt.Halt.TheVariants.{Code, Memory}
use Rattle.values_heap.specs.View.{SaysItems}
use Rattle.values_semantics.specs.declared.val.Val.{Val}
use Rattle.values_semantics.specs.Outcome.{gives}
use Rattle.evaluator_semantics.specs.World.{World, Here, at_site, then_runs}
use Rattle.evaluator_semantics.specs.Targets as t
use Rattle.evaluator_semantics.specs.Targets.{Aims, how_many, to_each, aim_at, unpack, store, store_each}
use Rattle.evaluator_state.specs.View.{Ran}
use Rattle.evaluator_state.specs.AimView.{aim_of, aims_of, aim_step}
use Rattle.evaluator_state.proofs.HeapPieces.{how_many_of}
use Rattle.evaluator_state.specs.declared.lvalues.LValue.{LValue, fold-roll-LValue}
use Rattle.evaluator_state.specs.declared.lvalues.LValue.TheOpen.{LValue-F}
use Rattle.evaluator_state.specs.declared.lvalues.LValue.TheVariants.{Each, rolls-Each}

pub aim-Each : (as' : Vec LValue Global) → aim_of (Each as') ≡ to_each (aims_of (map aim_of as'.items))
aim-Each as' = ap aim_of (sym (rolls-Each as')) ∙ fold-roll-LValue t.Aim aim_step (LValue-F.Each as')

-- the members for several targets
counted : (as' : List t.Aim) (n : ℕ) (v : Val) (here : Here) (w : World) → n ≡ length as' → store (to_each (aims_of as')) v here w ≡ then_runs (at_site here.site w (unpack n v w.store)) (λ xs. store_each (aims_of as') xs here)
counted as' n v here w e = ap (λ k. then_runs (at_site here.site w (unpack k v w.store)) (λ xs. store_each (aims_of as') xs here)) (how_many_of as' ∙ sym e)

pub each_goes : (as' : List t.Aim) (n : ℕ) (v : Val) (here : Here) (w : World) (xs : List Val) → n ≡ length as' → unpack n v w.store ≡ gives xs w.store → store (to_each (aims_of as')) v here w ≡ store_each (aims_of as') xs here w
each_goes as' n v here w xs e says = counted as' n v here w e ∙ ap (λ o. then_runs (at_site here.site w o) (λ xs. store_each (aims_of as') xs here)) says

pub each_stops : (as' : List t.Aim) (n : ℕ) (v : Val) (here : Here) (w u : World) (halt : Halt) → n ≡ length as' → SaysItems (unpack n v w.store) (Err halt) w.store → Ran here.site (store (to_each (aims_of as')) v here w) (Err halt) u
each_stops as' n v here w u (Code c) e says = counted as' n v here w e ∙ ap (λ o. then_runs (at_site here.site w o) (λ xs. store_each (aims_of as') xs here)) says
each_stops as' n v here w u (Memory _) e says = tt

pub one_stops : (a : t.Aim) (more : Aims) (x : Val) (xs : List Val) (here : Here) (w u : World) (halt : Halt) → Ran here.site (store a x here w) (Err halt) u → Ran here.site (store_each (aim_at a more) (x ∷ xs) here w) (Err halt) u
one_stops a more x xs here w u (Code c) h = ap (λ o. then_runs o (λ _. store_each more xs here)) h
one_stops a more x xs here w u (Memory _) h = tt
