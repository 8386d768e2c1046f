-- Pieces that never wait for answers.
use Rattle.std.proofs.Common.{ℕ, List, [], ◌∷◌, ◌++◌, suc, Bool, true, false, Option, Some, None}
use Rattle.std.specs.Prelude.{if◌then◌else◌, is_some, length}
use Rattle.syntax_tree.specs.declared.expr.UnaryOp.{UnaryOp}
use Rattle.syntax_tree.specs.declared.expr.UnaryOp.TheVariants as u
use Rattle.syntax_tree.specs.declared.expr.BinaryOp.{BinaryOp}
use Rattle.syntax_tree.specs.declared.expr.BinaryOp.TheVariants as o
use Rattle.syntax_tree.specs.Tree.{Ld, It, Fn}
use Rattle.values_semantics.specs.declared.val.Val.{Val}
use Rattle.values_semantics.specs.declared.builtin.Builtin.{Builtin}
use Rattle.values_semantics.specs.Outcome as m
use Rattle.values_semantics.specs.Outcome.{Out, gives, faults, Does, lift_fault}
use Rattle.values_semantics.specs.declared.val.Val.TheVariants as v
use Rattle.values_semantics.specs.Heap.{Store, Entries, walks, makes_text, is_sized}
use Rattle.values_semantics.specs.Operators.{negate, plus}
use Rattle.values_semantics.specs.Comparing.{entry_at}
use Rattle.values_semantics.specs.Indexing.{hash, index, set_index}
use Rattle.values_semantics.specs.Binary.{binary}
use Rattle.values_semantics.specs.Freezing.{thaw, thaw_members, freeze, freeze_members}
use Rattle.values_semantics.specs.Functions.{KeywordArguments, grows}
use Rattle.values_modules.specs.Values.{Target, Frozen, Defaults, Body, ModuleValue}
use Rattle.evaluator_semantics.specs.Modules.{export_of}
use Rattle.evaluator_semantics.specs.World.{World, Site, Here, Ends, ended, failed, waits, Runs, then_runs, at_site, on_heap, tick, or_fault, fault, pure, at_line}
use Rattle.evaluator_semantics.specs.Names.{names_once, top_names, slot, slot_among, file_slot, names_at, read_universal, read_slot, read, bind_global, bind, is_native, universal}
use Rattle.evaluator_semantics.specs.Environment.{Env, defs, defaults_of, thaw_block, thawed_defaults, thaw_body, need_names, reached_module}
use Rattle.evaluator_semantics.specs.Targets.{Aim, to_name, to_member, to_each, Aims, no_aims, aim_at, how_many, unpack, store, store_each}
use Rattle.evaluator_semantics.specs.Loops.{Collection, one_more, one_entry}
use Rattle.evaluator_semantics.specs.Expressions.{unary, operator_of, fresh}
use Rattle.evaluator_semantics.specs.Statements.{present, augmented_sum, augmented_value}
use Rattle.evaluator_semantics.specs.Files.{load_items, loads, leading, frozen_names, frozen_defaults, frozen_module}
use Rattle.evaluator_semantics.specs.Rules.{is_used, target_of, adds_target, rule}
use Rattle.evaluator_semantics.specs.Packages.{package_name}

abbrev pub DoesNotWait : {A : Type 0} → Ends A → Type 0
DoesNotWait (waits ps) = ⊥
DoesNotWait e = Unit {0}

pub record Quiet {A : Type 0} (e : Ends A) : Type 0 where
  pub at : DoesNotWait e

pub on_site : {A : Type 0} (site : Site) (w : World) (out : Out Store A) → Quiet (at_site site w out)
on_site site w (gives a s) = record { at = tt }
on_site site w (faults c) = record { at = tt }

pub heap_quiet : {A : Type 0} (here : Here) (m : Does Store A) (w : World) → Quiet (on_heap here m w)
heap_quiet here m w = on_site here.site w (m w.store)

pub ends_quiet : {A : Type 0} (a : A) (w : World) → Quiet (ended a w)
ends_quiet a w = record { at = tt }

pub fails_quiet : {A : Type 0} (c : ℕ) (site : Site) → Quiet {A = A} (failed c site)
fails_quiet c site = record { at = tt }

then_quiet_at : {A B : Type 0} (e : Ends A) (k : A → Runs B) → DoesNotWait e → ((a : A) (w : World) → Quiet (k a w)) → DoesNotWait (then_runs e k)
then_quiet_at (ended a w) k p h = (h a w).at
then_quiet_at (failed c s) k p h = tt
then_quiet_at (waits ps) k p h = absurd p

pub then_quiet : {A B : Type 0} (e : Ends A) (k : A → Runs B) → Quiet e → ((a : A) (w : World) → Quiet (k a w)) → Quiet (then_runs e k)
then_quiet e k p h = record { at = then_quiet_at e k p.at h }

pub if_quiet : {A : Type 0} (b : Bool) (m n : Runs A) (w : World) → Quiet (m w) → Quiet (n w) → Quiet ((if b then m else n) w)
if_quiet true m n w p q = p
if_quiet false m n w p q = q

pub tick_quiet : (here : Here) (w : World) → Quiet (tick here w)
unfolding tick
tick_quiet here w = heap_quiet here (walks λ heap. m.tick) w

pub or_fault_quiet : {A : Type 0} (c : ℕ) (a : Option A) (here : Here) (w : World) → Quiet (or_fault c a here w)
or_fault_quiet c None here w = fails_quiet _ _
or_fault_quiet c (Some a) here w = ends_quiet _ _

-- ---- names

read_universal_quiet : (x : List ℕ) (here : Here) (w : World) → Quiet (read_universal x here w)
read_universal_quiet x here w = if_quiet (is_native here.kind x) _ _ w (fails_quiet _ _) (then_quiet (or_fault 4 (universal here.kind x) here w) _ (or_fault_quiet _ _ here w) λ f s. ends_quiet _ _)

read_slot_quiet : (s : Option (Option Val)) (x : List ℕ) (here : Here) (w : World) → Quiet (read_slot s x here w)
read_slot_quiet None x here w = read_universal_quiet x here w
read_slot_quiet (Some value) x here w = or_fault_quiet 4 value here w

pub read_quiet : (x : List ℕ) (here : Here) (w : World) → Quiet (read x here w)
unfolding read
read_quiet x here w = read_slot_quiet (slot x here w) x here w

bind_global_quiet : (s : Option (Option Val)) (x : List ℕ) (value : Val) (here : Here) (w : World) → Quiet (bind_global s x value here w)
bind_global_quiet (Some None) x value here w = ends_quiet _ _
bind_global_quiet (Some (Some y)) x value here w = fails_quiet _ _
bind_global_quiet None x value here w = fails_quiet _ _

pub bind_quiet : (x : List ℕ) (value : Val) (here : Here) (w : World) → Quiet (bind x value here w)
unfolding bind
bind_quiet x value here w = if_quiet (is_some (slot_among x w.blocks)) _ _ w (ends_quiet _ _) (bind_global_quiet (file_slot x (names_at here.label w.files)) x value here w)

mutual
  pub store_quiet : (a : Aim) (x : Val) (here : Here) (w : World) → Quiet (store a x here w)
  store_quiet (to_name y) x here w = bind_quiet y x here w
  store_quiet (to_member c i) x here w = heap_quiet here (set_index c i x) w
  store_quiet (to_each aims) x here w = then_quiet (on_heap here (unpack (how_many aims) x) w) _ (heap_quiet here (unpack (how_many aims) x) w) λ xs s. store_each_quiet aims xs here s

  pub store_each_quiet : (as' : Aims) (xs : List Val) (here : Here) (w : World) → Quiet (store_each as' xs here w)
  store_each_quiet no_aims xs here w = ends_quiet _ _
  store_each_quiet (aim_at a more) [] here w = fails_quiet _ _
  store_each_quiet (aim_at a more) (x ∷ xs) here w = then_quiet (store a x here w) _ (store_quiet a x here w) λ _ s. store_each_quiet more xs here s

-- ---- values

pub one_more_quiet : (x : Val) (g : Collection) (here : Here) (w : World) → Quiet (one_more x g here w)
one_more_quiet x g here w = if_quiet (is_sized (suc (length g.members))) (pure (record g { members = g.members ++ x ∷ [] })) (fault 13 here) w (ends_quiet _ w) (fails_quiet 13 here.site)

pub one_entry_quiet : (x y : Val) (g : Collection) (here : Here) (w : World) → Quiet (one_entry x y g here w)
one_entry_quiet x y g here w = then_quiet (on_heap here (grows x y g.entries) w) _ (heap_quiet here (grows x y g.entries) w) λ _ s. ends_quiet _ s

pub fresh_quiet : (x y : Val) (es : Entries) (here : Here) (w : World) → Quiet (fresh x y es here w)
fresh_quiet x y es here w = then_quiet (on_heap here (hash x) w) _ (heap_quiet here (hash x) w) λ parts s. if_quiet (is_some (entry_at parts es)) (fault 25 here) (pure (es ++ (parts, record { key = x; value = y }) ∷ [])) s (fails_quiet 25 here.site) (ends_quiet _ s)

pub unary_quiet : (op : UnaryOp) (x : Val) (here : Here) (w : World) → Quiet (unary op x here w)
unary_quiet u.Not x here w = ends_quiet _ _
unary_quiet u.Plus x here w = heap_quiet here (plus x) w
unary_quiet u.Minus x here w = heap_quiet here (negate x) w

pub present_quiet : (a : Aim) (here : Here) (w : World) → Quiet (present a here w)
present_quiet (to_name x) here w = read_quiet x here w
present_quiet (to_member c i) here w = heap_quiet here (index c i) w
present_quiet (to_each aims) here w = fails_quiet _ _

pub changed_quiet : (op : BinaryOp) (x y : Val) (here : Here) (w : World) → Quiet (augmented_value op x y here w)
changed_quiet o.Add x y here w = heap_quiet here (augmented_sum x y) w
changed_quiet op x y here w = heap_quiet here (binary (operator_of op) x y) w

-- ---- modules and packages

pub thawed_quiet : (fs : List Frozen) (here : Here) (w : World) → Quiet (thaw_block fs here w)
thawed_quiet [] here w = ends_quiet _ _
thawed_quiet (f ∷ fs) here w = then_quiet (on_heap here (thaw f.value) w) _ (heap_quiet here (thaw f.value) w) λ x s. then_quiet (thaw_block fs here s) _ (thawed_quiet fs here s) λ _ _. ends_quiet _ _

pub thawed_defaults_quiet : (ds : List Defaults) (here : Here) (w : World) → Quiet (thawed_defaults ds here w)
thawed_defaults_quiet [] here w = ends_quiet _ _
thawed_defaults_quiet (d ∷ ds) here w = then_quiet (on_heap here (thaw_members d.values) w) _ (heap_quiet here (thaw_members d.values) w) λ x s. then_quiet (thawed_defaults ds here s) _ (thawed_defaults_quiet ds here s) λ _ _. ends_quiet _ _

thaw_body_quiet : (body : Option Body) (here : Here) (w : World) → Quiet (thaw_body body here w)
thaw_body_quiet None here w = ends_quiet _ _
thaw_body_quiet (Some body) here w =
    then_quiet (thaw_block body.own here w) _ (thawed_quiet body.own here w) λ own s.
    then_quiet (thaw_block body.loaded here s) _ (thawed_quiet body.loaded here s) λ loaded t.
    then_quiet (thawed_defaults body.defaults here t) _ (thawed_defaults_quiet body.defaults here t) λ _ _. ends_quiet _ _

pub need_names_quiet : (env : Env) (label : List ℕ) (here : Here) (w : World) → Quiet (need_names env label here w)
unfolding need_names
need_names_quiet env label here w = if_quiet (is_some (names_at label w.files)) _ _ w (ends_quiet _ _) (thaw_body_quiet (reached_module env label) here w)

adds_target_quiet : (target : Target) (here : Here) (w : World) → Quiet (adds_target target here w)
adds_target_quiet target here w = if_quiet (is_used target.name w.targets) (fault 20 here) (λ u. ended v.Nothing (record u { targets = u.targets ++ target ∷ [] })) w (fails_quiet 20 here.site) (ends_quiet _ _)

pub rule_quiet : (f : Builtin) (package_name : List ℕ) (xs : List Val) (ns : KeywordArguments) (here : Here) (w : World) → Quiet (rule f package_name xs ns here w)
unfolding rule
rule_quiet f package_name xs ns here w = then_quiet (on_heap here (λ s. lift_fault (target_of f package_name xs ns s) s) w) _ (heap_quiet here (λ s. lift_fault (target_of f package_name xs ns s) s) w) λ target s. adds_target_quiet target here s

pub package_name_quiet : (env : Env) (xs : List Val) (ns : KeywordArguments) (here : Here) (w : World) → Quiet (package_name env xs ns here w)
package_name_quiet env [] [] here w = heap_quiet here (makes_text env.package_name) w
package_name_quiet env [] (n ∷ ns) here w = fails_quiet _ _
package_name_quiet env (x ∷ xs) ns here w = fails_quiet _ _

-- ---- files

load_items_quiet : (body : Body) (items : List It) (here : Here) (w : World) → Quiet (load_items body items here w)
load_items_quiet body [] here w = ends_quiet _ _
load_items_quiet body (i ∷ items) here w =
    then_quiet (or_fault 18 (export_of i.exported body) here w) _ (or_fault_quiet 18 (export_of i.exported body) here w) λ f s.
    then_quiet (on_heap here (thaw f) s) _ (heap_quiet here (thaw f) s) λ x t.
    then_quiet (bind i.local x here t) _ (bind_quiet i.local x here t) λ _ r. load_items_quiet body items here r

pub loads_quiet : (ls : List Ld) (ms : List ModuleValue) (here : Here) (w : World) → Quiet (loads ls ms here w)
loads_quiet [] ms here w = ends_quiet _ _
loads_quiet (l ∷ ls) [] here w = fails_quiet _ _
loads_quiet (l ∷ ls) (m ∷ ms) here w =
    then_quiet (tick (at_line l.line here) w) _ (tick_quiet _ w) λ _ s.
    then_quiet (load_items m.body l.items (at_line l.line here) s) _ (load_items_quiet m.body l.items (at_line l.line here) s) λ _ t. loads_quiet ls ms here t

pub leading_quiet : (line : Option ℕ) (here : Here) (w : World) → Quiet (leading line here w)
leading_quiet None here w = ends_quiet _ _
leading_quiet (Some line) here w = tick_quiet _ w

frozen_names_quiet : (xs : List (List ℕ)) (here : Here) (w : World) → Quiet (frozen_names xs here w)
frozen_names_quiet [] here w = ends_quiet _ _
frozen_names_quiet (x ∷ xs) here w =
    then_quiet (or_fault 4 (file_slot x (names_at here.label w.files)) here w) _ (or_fault_quiet 4 (file_slot x (names_at here.label w.files)) here w) λ bound s.
    then_quiet (or_fault 4 bound here s) _ (or_fault_quiet 4 bound here s) λ y t.
    then_quiet (on_heap here (walks λ heap. freeze 64 heap y) t) _ (heap_quiet here (walks λ heap. freeze 64 heap y) t) λ f r.
    then_quiet (frozen_names xs here r) _ (frozen_names_quiet xs here r) λ _ _. ends_quiet _ _

frozen_defaults_quiet : (fs : List Fn) (here : Here) (w : World) → Quiet (frozen_defaults fs here w)
frozen_defaults_quiet [] here w = ends_quiet _ _
frozen_defaults_quiet (f ∷ fs) here w =
    then_quiet (on_heap here (walks λ heap. freeze_members (freeze 64 heap) (defaults_of here.label f.name w)) w) _ (heap_quiet here (walks λ heap. freeze_members (freeze 64 heap) (defaults_of here.label f.name w)) w) λ xs s. then_quiet (frozen_defaults fs here s) _ (frozen_defaults_quiet fs here s) λ _ _. ends_quiet _ _

pub frozen_module_quiet : (env : Env) (here : Here) (w : World) → Quiet (frozen_module env here w)
frozen_module_quiet env here w =
    let xs = names_once [] (top_names env.file.tops) in
    let fs = defs env.file.tops in
    then_quiet (frozen_names xs here w) _ (frozen_names_quiet xs here w) λ own s.
    then_quiet (frozen_defaults fs here s) _ (frozen_defaults_quiet fs here s) λ _ t. ends_quiet _ t

pub ruleset quiet = (ends_quiet, fails_quiet, heap_quiet, tick_quiet, or_fault_quiet, read_quiet, bind_quiet, store_quiet, one_more_quiet, one_entry_quiet, fresh_quiet, unary_quiet, present_quiet, changed_quiet, need_names_quiet, rule_quiet, package_name_quiet, loads_quiet, leading_quiet, frozen_module_quiet, if_quiet, then_quiet)
