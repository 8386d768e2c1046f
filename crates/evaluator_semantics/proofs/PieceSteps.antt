-- Pieces of an evaluation have no more steps left than before, and names of files that are bound keep their values.
use Rattle.std.proofs.Common.{subst, ℕ, List, [], ◌∷◌, ◌++◌, suc, ◌≡◌, ◌≤◌, arith, refl, Bool, true, false, Option, Some, None}
use Rattle.std.specs.Prelude.{if◌then◌else◌, is_some, length}
use Rattle.syntax_tree.specs.declared.expr.UnaryOp.{UnaryOp}
use Rattle.syntax_tree.specs.declared.expr.UnaryOp.TheVariants as u
use Rattle.syntax_tree.specs.declared.expr.BinaryOp.{BinaryOp}
use Rattle.syntax_tree.specs.declared.expr.BinaryOp.TheVariants as o
use Rattle.syntax_tree.specs.Tree.{Ld, It, Fn}
use Rattle.values_semantics.specs.declared.val.Val.{Val}
use Rattle.values_semantics.specs.declared.builtin.Builtin.{Builtin}
use Rattle.values_semantics.specs.Outcome as m
use Rattle.values_semantics.specs.Outcome.{Out, gives, faults, Does, lift_fault}
use Rattle.values_semantics.specs.declared.val.Val.TheVariants as v
use Rattle.values_semantics.specs.Heap.{Store, at, Entries, walks, makes_text, is_sized}
use Rattle.values_semantics.specs.Operators.{add, negate, plus}
use Rattle.values_semantics.specs.Comparing.{entry_at}
use Rattle.values_semantics.specs.Indexing.{hash, index, set_index}
use Rattle.values_semantics.specs.Binary.{binary}
use Rattle.values_semantics.specs.Freezing.{thaw, thaw_members, freeze, freeze_members}
use Rattle.values_semantics.specs.Functions.{KeywordArguments, grows}
use Rattle.values_modules.specs.Values.{Target, Frozen, Defaults, Body, ModuleValue}
use Rattle.evaluator_semantics.specs.Modules.{export_of}
use Rattle.evaluator_semantics.specs.World.{World, Site, Here, Ends, ended, failed, waits, Runs, then_runs, at_site, on_heap, tick, or_fault, fault, pure, at_line}
use Rattle.evaluator_semantics.specs.Names.{change_names, bind_in, names_once, top_names, slot, slot_among, file_slot, names_at, read_universal, read_slot, read, bind_global, bind, is_native, universal}
use Rattle.evaluator_semantics.specs.Environment.{Env, defs, defaults_of, thaw_block, thawed_defaults, thaw_body, need_names, reached_module}
use Rattle.evaluator_semantics.specs.Targets.{Aim, to_name, to_member, to_each, Aims, no_aims, aim_at, how_many, parts_of, unpack, store, store_each}
use Rattle.evaluator_semantics.specs.Loops.{Collection, one_more, one_entry}
use Rattle.evaluator_semantics.specs.Expressions.{unary, operator_of, fresh}
use Rattle.evaluator_semantics.specs.Statements.{present, augmented_sum, augmented_value}
use Rattle.evaluator_semantics.specs.Files.{load_items, loads, leading, frozen_names, frozen_defaults, frozen_module}
use Rattle.evaluator_semantics.specs.Rules.{is_used, target_of, adds_target, rule}
use Rattle.evaluator_semantics.specs.Packages.{package_name}
use Rattle.evaluator_semantics.proofs.KeptNames.{kept_bind, kept_behind}
use Rattle.evaluator_semantics.specs.Laws.{Kept}
use Rattle.evaluator_semantics.proofs.WalkSteps.{w_tick, freeze_falls, freeze_members_falls}
use Rattle.evaluator_semantics.proofs.HeapSteps.{HeapAtMost, Lowers, d_checked, d_walks, d_text, hash_down, set_index_down, index_down, plus_down, negate_down, binary_down, add_down}
use Rattle.evaluator_semantics.proofs.CallSteps.{grows_down, thaw_down, thaw_members_down}
use Rattle.evaluator_semantics.proofs.MethodSteps.{add_in_place_down}

-- what a later world keeps of an earlier one: it has no more steps left, and each name of a file that was bound has its
-- value still
pub record After (w u : World) : Type 0 where
  pub steps : u.store.steps ≤ w.store.steps
  pub kept : Kept w.files u.files

after_trans : (w u z : World) → After w u → After u z → After w z
after_trans w u z p q = record { steps = below p.steps q.steps; kept = λ label x v h. q.kept label x v (p.kept label x v h) }
  where
    below : u.store.steps ≤ w.store.steps → z.store.steps ≤ u.store.steps → z.store.steps ≤ w.store.steps
    below h k = omega arith

abbrev pub EndsAfter : {A : Type 0} → World → Ends A → Type 0
EndsAfter w (ended a u) = After w u
EndsAfter w (failed c s) = Unit {0}
EndsAfter w (waits ps) = Unit {0}

pub record Sinks {A : Type 0} (w : World) (e : Ends A) : Type 0 where
  pub at : EndsAfter w e

-- a piece that keeps these
abbrev pub Sinking : {A : Type 0} → Runs A → Type 0
Sinking m = (w : World) → Sinks w (m w)

pub ends_sink : {A : Type 0} (a : A) (w u : World) → u.store.steps ≡ w.store.steps → w.files ≡ u.files → Sinks w (ended a u)
ends_sink a w u e f = record { at = record { steps = omega (arith, e); kept = λ label x v h. subst (λ fs. file_slot x (names_at label fs) ≡ Some (Some v)) f h } }

-- where the names of files change, too
pub changes_sink : {A : Type 0} (a : A) (w u : World) → u.store.steps ≡ w.store.steps → Kept w.files u.files → Sinks w (ended a u)
changes_sink a w u e k = record { at = record { steps = omega (arith, e); kept = k } }

beside_at : {A : Type 0} (w v : World) → After w v → (e : Ends A) → EndsAfter v e → EndsAfter w e
beside_at w v p (ended a u) h = after_trans w v u p h
beside_at w v p (failed c s) h = tt
beside_at w v p (waits ps) h = tt

-- a piece that begins with other blocks
pub from_beside : {A : Type 0} (w v : World) (e : Ends A) → v.store.steps ≡ w.store.steps → w.files ≡ v.files → Sinks v e → Sinks w e
from_beside w v e p f h = record { at = beside_at w v (record { steps = omega (arith, p); kept = λ label x u k. subst (λ fs. file_slot x (names_at label fs) ≡ Some (Some u)) f k }) e h.at }

pub gives_sink : {A : Type 0} (a : A) → Sinking (pure a)
gives_sink a w = ends_sink a w w refl refl

pub fails_sink : {A : Type 0} (c : ℕ) (site : Site) (w : World) → Sinks {A = A} w (failed c site)
fails_sink c site w = record { at = tt }

pub waits_sink : {A : Type 0} (ps : List (List ℕ)) (w : World) → Sinks {A = A} w (waits ps)
waits_sink ps w = record { at = tt }

then_sinks_at : {A B : Type 0} (w : World) (e : Ends A) (k : A → Runs B) → EndsAfter w e → ((a : A) → Sinking (k a)) → EndsAfter w (then_runs e k)
then_sinks_at {B = B} w (ended a u) k p h = later u p (k a u) (h a u).at
  where
    later : (u : World) → After w u → (e : Ends B) → EndsAfter u e → EndsAfter w e
    later u p (ended b z) q = after_trans w u z p q
    later u p (failed c s) q = tt
    later u p (waits ps) q = tt
then_sinks_at w (failed c s) k p h = tt
then_sinks_at w (waits ps) k p h = tt

pub then_sinks : {A B : Type 0} (w : World) (e : Ends A) (k : A → Runs B) → Sinks w e → ((a : A) → Sinking (k a)) → Sinks w (then_runs e k)
then_sinks w e k p h = record { at = then_sinks_at w e k p.at h }

pub if_sinks : {A : Type 0} (b : Bool) (m k : Runs A) (w z : World) → Sinks z (m w) → Sinks z (k w) → Sinks z ((if b then m else k) w)
if_sinks true m k w z p q = p
if_sinks false m k w z p q = q

site_sinks : {A : Type 0} (site : Site) (w : World) (out : Out Store A) → HeapAtMost w.store.steps out → EndsAfter w (at_site site w out)
site_sinks site w (gives a s) h = record { steps = h; kept = λ label x v k. k }
site_sinks site w (faults c) h = tt

pub heap_sinks : {A : Type 0} (here : Here) (m : Does Store A) → Lowers m → Sinking (on_heap here m)
heap_sinks here m h w = record { at = site_sinks here.site w (m w.store) (h w.store).at }

unpack_down : (n : ℕ) (x : Val) → Lowers (unpack n x)
unpack_down n x s = d_checked (parts_of n x s) s

added_down : (x y : Val) → Lowers (augmented_sum x y)
added_down (v.At a) (v.At b) s = add_in_place_down a (at a s) b (at b s) (add (v.At a) (v.At b)) (add_down (v.At a) (v.At b)) s
added_down x y s = add_down x y s

pub tick_sinks : (here : Here) (w : World) → Sinks w (tick here w)
unfolding tick
tick_sinks here w = heap_sinks here (walks λ heap. m.tick) (λ s. d_walks (λ heap. m.tick) (λ heap. w_tick) s) w

pub or_fault_sinks : {A : Type 0} (c : ℕ) (a : Option A) (here : Here) (w : World) → Sinks w (or_fault c a here w)
or_fault_sinks c None here w = fails_sink _ _ _
or_fault_sinks c (Some a) here w = ends_sink _ _ _ refl refl

-- ---- names

read_universal_sinks : (x : List ℕ) (here : Here) (w : World) → Sinks w (read_universal x here w)
read_universal_sinks x here w = if_sinks (is_native here.kind x) _ _ w w (fails_sink _ _ _) (then_sinks w (or_fault 4 (universal here.kind x) here w) _ (or_fault_sinks _ _ here w) λ f s. ends_sink _ _ _ refl refl)

read_slot_sinks : (s : Option (Option Val)) (x : List ℕ) (here : Here) (w : World) → Sinks w (read_slot s x here w)
read_slot_sinks None x here w = read_universal_sinks x here w
read_slot_sinks (Some value) x here w = or_fault_sinks 4 value here w

pub read_sinks : (x : List ℕ) (here : Here) (w : World) → Sinks w (read x here w)
unfolding read
read_sinks x here w = read_slot_sinks (slot x here w) x here w

bind_global_sinks : (s : Option (Option Val)) (x : List ℕ) (value : Val) (here : Here) (w : World) → file_slot x (names_at here.label w.files) ≡ s → Sinks w (bind_global s x value here w)
bind_global_sinks (Some None) x value here w h = changes_sink tt w (record w { files = change_names here.label (λ f. record f { block = bind_in x value f.block }) w.files }) refl (kept_bind here.label x value w.files h)
bind_global_sinks (Some (Some y)) x value here w h = fails_sink _ _ _
bind_global_sinks None x value here w h = fails_sink _ _ _

pub bind_sinks : (x : List ℕ) (value : Val) (here : Here) (w : World) → Sinks w (bind x value here w)
unfolding bind
bind_sinks x value here w = if_sinks (is_some (slot_among x w.blocks)) _ _ w w (ends_sink _ _ _ refl refl) (bind_global_sinks (file_slot x (names_at here.label w.files)) x value here w refl)

mutual
  pub store_sinks : (a : Aim) (x : Val) (here : Here) (w : World) → Sinks w (store a x here w)
  store_sinks (to_name y) x here w = bind_sinks y x here w
  store_sinks (to_member c i) x here w = heap_sinks here (set_index c i x) (set_index_down c i x) w
  store_sinks (to_each aims) x here w = then_sinks w (on_heap here (unpack (how_many aims) x) w) _ (heap_sinks here (unpack (how_many aims) x) (unpack_down (how_many aims) x) w) λ xs s. store_each_sinks aims xs here s

  pub store_each_sinks : (as' : Aims) (xs : List Val) (here : Here) (w : World) → Sinks w (store_each as' xs here w)
  store_each_sinks no_aims xs here w = ends_sink _ _ _ refl refl
  store_each_sinks (aim_at a more) [] here w = fails_sink _ _ _
  store_each_sinks (aim_at a more) (x ∷ xs) here w = then_sinks w (store a x here w) _ (store_sinks a x here w) λ _ s. store_each_sinks more xs here s

-- ---- values

pub one_more_sinks : (x : Val) (g : Collection) (here : Here) (w : World) → Sinks w (one_more x g here w)
one_more_sinks x g here w = if_sinks (is_sized (suc (length g.members))) (pure (record g { members = g.members ++ x ∷ [] })) (fault 13 here) w w (ends_sink _ _ _ refl refl) (fails_sink _ _ _)

pub one_entry_sinks : (x y : Val) (g : Collection) (here : Here) (w : World) → Sinks w (one_entry x y g here w)
one_entry_sinks x y g here w = then_sinks w (on_heap here (grows x y g.entries) w) _ (heap_sinks here (grows x y g.entries) (grows_down x y g.entries) w) λ _ s. ends_sink _ _ _ refl refl

pub fresh_sinks : (x y : Val) (es : Entries) (here : Here) (w : World) → Sinks w (fresh x y es here w)
fresh_sinks x y es here w = then_sinks w (on_heap here (hash x) w) _ (heap_sinks here (hash x) (hash_down x) w) λ parts s. if_sinks (is_some (entry_at parts es)) (fault 25 here) (pure (es ++ (parts, record { key = x; value = y }) ∷ [])) s s (fails_sink _ _ _) (ends_sink _ _ _ refl refl)

pub unary_sinks : (op : UnaryOp) (x : Val) (here : Here) (w : World) → Sinks w (unary op x here w)
unary_sinks u.Not x here w = ends_sink _ _ _ refl refl
unary_sinks u.Plus x here w = heap_sinks here (plus x) (plus_down x) w
unary_sinks u.Minus x here w = heap_sinks here (negate x) (negate_down x) w

pub present_sinks : (a : Aim) (here : Here) (w : World) → Sinks w (present a here w)
present_sinks (to_name x) here w = read_sinks x here w
present_sinks (to_member c i) here w = heap_sinks here (index c i) (index_down c i) w
present_sinks (to_each aims) here w = fails_sink _ _ _

pub changed_sinks : (op : BinaryOp) (x y : Val) (here : Here) (w : World) → Sinks w (augmented_value op x y here w)
changed_sinks o.Add x y here w = heap_sinks here (augmented_sum x y) (added_down x y) w
changed_sinks op x y here w = heap_sinks here (binary (operator_of op) x y) (binary_down (operator_of op) x y) w

-- ---- modules and packages

pub thawed_sinks : (fs : List Frozen) (here : Here) (w : World) → Sinks w (thaw_block fs here w)
thawed_sinks [] here w = ends_sink _ _ _ refl refl
thawed_sinks (f ∷ fs) here w = then_sinks w (on_heap here (thaw f.value) w) _ (heap_sinks here (thaw f.value) (thaw_down f.value) w) λ x s. then_sinks s (thaw_block fs here s) _ (thawed_sinks fs here s) λ _ _. ends_sink _ _ _ refl refl

pub thawed_defaults_sinks : (ds : List Defaults) (here : Here) (w : World) → Sinks w (thawed_defaults ds here w)
thawed_defaults_sinks [] here w = ends_sink _ _ _ refl refl
thawed_defaults_sinks (d ∷ ds) here w = then_sinks w (on_heap here (thaw_members d.values) w) _ (heap_sinks here (thaw_members d.values) (thaw_members_down d.values) w) λ x s. then_sinks s (thawed_defaults ds here s) _ (thawed_defaults_sinks ds here s) λ _ _. ends_sink _ _ _ refl refl

thaw_body_sinks : (body : Option Body) (here : Here) (w : World) → Sinks w (thaw_body body here w)
thaw_body_sinks None here w = ends_sink _ _ _ refl refl
thaw_body_sinks (Some body) here w =
    then_sinks w (thaw_block body.own here w) _ (thawed_sinks body.own here w) λ own s.
    then_sinks s (thaw_block body.loaded here s) _ (thawed_sinks body.loaded here s) λ loaded t.
    then_sinks t (thawed_defaults body.defaults here t) _ (thawed_defaults_sinks body.defaults here t) λ defaults u. changes_sink tt u _ refl (kept_behind (record { label = body.label; block = own ++ loaded; defaults = defaults }) u.files)

pub need_names_sinks : (env : Env) (label : List ℕ) (here : Here) (w : World) → Sinks w (need_names env label here w)
unfolding need_names
need_names_sinks env label here w = if_sinks (is_some (names_at label w.files)) _ _ w w (ends_sink _ _ _ refl refl) (thaw_body_sinks (reached_module env label) here w)

adds_target_sinks : (target : Target) (here : Here) (w : World) → Sinks w (adds_target target here w)
adds_target_sinks target here w = if_sinks (is_used target.name w.targets) (fault 20 here) (λ u. ended v.Nothing (record u { targets = u.targets ++ target ∷ [] })) w w (fails_sink _ _ _) (ends_sink _ _ _ refl refl)

pub rule_sinks : (f : Builtin) (package_name : List ℕ) (xs : List Val) (ns : KeywordArguments) (here : Here) (w : World) → Sinks w (rule f package_name xs ns here w)
unfolding rule
rule_sinks f package_name xs ns here w = then_sinks w (on_heap here (λ s. lift_fault (target_of f package_name xs ns s) s) w) _ (heap_sinks here (λ s. lift_fault (target_of f package_name xs ns s) s) (λ s. d_checked (target_of f package_name xs ns s) s) w) λ target s. adds_target_sinks target here s

pub package_name_sinks : (env : Env) (xs : List Val) (ns : KeywordArguments) (here : Here) (w : World) → Sinks w (package_name env xs ns here w)
package_name_sinks env [] [] here w = heap_sinks here (makes_text env.package_name) (d_text env.package_name) w
package_name_sinks env [] (n ∷ ns) here w = fails_sink _ _ _
package_name_sinks env (x ∷ xs) ns here w = fails_sink _ _ _

-- ---- files

load_items_sinks : (body : Body) (items : List It) (here : Here) (w : World) → Sinks w (load_items body items here w)
load_items_sinks body [] here w = ends_sink _ _ _ refl refl
load_items_sinks body (i ∷ items) here w =
    then_sinks w (or_fault 18 (export_of i.exported body) here w) _ (or_fault_sinks 18 (export_of i.exported body) here w) λ f s.
    then_sinks s (on_heap here (thaw f) s) _ (heap_sinks here (thaw f) (thaw_down f) s) λ x t.
    then_sinks t (bind i.local x here t) _ (bind_sinks i.local x here t) λ _ r. load_items_sinks body items here r

pub loads_sinks : (ls : List Ld) (ms : List ModuleValue) (here : Here) (w : World) → Sinks w (loads ls ms here w)
loads_sinks [] ms here w = ends_sink _ _ _ refl refl
loads_sinks (l ∷ ls) [] here w = fails_sink _ _ _
loads_sinks (l ∷ ls) (m ∷ ms) here w =
    then_sinks w (tick (at_line l.line here) w) _ (tick_sinks _ w) λ _ s.
    then_sinks s (load_items m.body l.items (at_line l.line here) s) _ (load_items_sinks m.body l.items (at_line l.line here) s) λ _ t. loads_sinks ls ms here t

pub leading_sinks : (line : Option ℕ) (here : Here) (w : World) → Sinks w (leading line here w)
leading_sinks None here w = ends_sink _ _ _ refl refl
leading_sinks (Some line) here w = tick_sinks _ w

frozen_names_sinks : (xs : List (List ℕ)) (here : Here) (w : World) → Sinks w (frozen_names xs here w)
frozen_names_sinks [] here w = ends_sink _ _ _ refl refl
frozen_names_sinks (x ∷ xs) here w =
    then_sinks w (or_fault 4 (file_slot x (names_at here.label w.files)) here w) _ (or_fault_sinks 4 (file_slot x (names_at here.label w.files)) here w) λ bound s.
    then_sinks s (or_fault 4 bound here s) _ (or_fault_sinks 4 bound here s) λ y t.
    then_sinks t (on_heap here (walks λ heap. freeze 64 heap y) t) _ (heap_sinks here (walks λ heap. freeze 64 heap y) (λ s. d_walks (λ heap. freeze 64 heap y) (λ heap. freeze_falls 64 heap y) s) t) λ f r.
    then_sinks r (frozen_names xs here r) _ (frozen_names_sinks xs here r) λ _ _. ends_sink _ _ _ refl refl

frozen_defaults_sinks : (fs : List Fn) (here : Here) (w : World) → Sinks w (frozen_defaults fs here w)
frozen_defaults_sinks [] here w = ends_sink _ _ _ refl refl
frozen_defaults_sinks (f ∷ fs) here w =
    then_sinks w (on_heap here (walks λ heap. freeze_members (freeze 64 heap) (defaults_of here.label f.name w)) w) _ (heap_sinks here (walks λ heap. freeze_members (freeze 64 heap) (defaults_of here.label f.name w)) (λ s. d_walks (λ heap. freeze_members (freeze 64 heap) (defaults_of here.label f.name w)) (λ heap. freeze_members_falls (freeze 64 heap) (freeze_falls 64 heap) (defaults_of here.label f.name w)) s) w) λ xs s. then_sinks s (frozen_defaults fs here s) _ (frozen_defaults_sinks fs here s) λ _ _. ends_sink _ _ _ refl refl

pub frozen_module_sinks : (env : Env) (here : Here) (w : World) → Sinks w (frozen_module env here w)
frozen_module_sinks env here w =
    let xs = names_once [] (top_names env.file.tops) in
    let fs = defs env.file.tops in
    then_sinks w (frozen_names xs here w) _ (frozen_names_sinks xs here w) λ own s.
    then_sinks s (frozen_defaults fs here s) _ (frozen_defaults_sinks fs here s) λ _ t. ends_sink _ _ _ refl refl
