-- What works on the heap alone, as a piece of an evaluation.
use Rattle.std.proofs.Common.{◌≡◌, ◌++◌, ℕ, Bool, cond, List, [], ◌∷◌, Option, is_some, Some, None, Result, Ok, Err, Vec, Global, refl, ap, sym, subst, ◌∙◌}
use Rattle.std.specs.Prelude.{option_map}
use Rattle.values_semantics.specs.declared.val.Val.{Val}
use Rattle.values_semantics.specs.Outcome.{Out, gives, faults, Does, and_then}
use Rattle.values_semantics.specs.Heap.{Store}
use Rattle.values_semantics.specs.Freezing.{Fz, thaw, thaw_members}
use Rattle.values_objects.specs.declared.halt.Halt.{Halt}
use Rattle.values_objects.specs.declared.halt.Halt.TheVariants.{Code, Memory}
use Rattle.evaluator_state.specs.View.{Ran}
use Rattle.values_modules.specs.Values.{Frozen, Defaults, Body, ModuleValue}
use Rattle.evaluator_semantics.specs.World.{World, Block, Here, Ends, ended, failed, waits, at_site, then_runs, pure, or_fault, on_heap, ◌>>=◌}
use Rattle.syntax_tree.specs.Tree.{It}
use Rattle.evaluator_semantics.specs.Files.{load_items}
use Rattle.evaluator_state.specs.declared.state.FunctionDefaults.{FunctionDefaults}
use Rattle.evaluator_semantics.specs.Environment.{Env, thaw_block, thawed_defaults, thaw_body, add_names, need_names}
use Rattle.evaluator_semantics.specs.Modules.{body_at, all_bodies, export_of}
use Rattle.evaluator_semantics.specs.Names.{names_at, bind}
use Rattle.evaluator_calls.specs.Thaw.{thaw_names, thaw_defaults, behind, SaysBlock, SaysKept}

pub site_then : {A B : Type 0} (here : Here) (w : World) (o : Out Store A) (k : A → Does Store B) (m : A → World → Ends B) → ((a : A) (s : Store) → m a (record w { store = s }) ≡ at_site here.site (record w { store = s }) (k a s)) → then_runs (at_site here.site w o) m ≡ at_site here.site w (and_then o k)
site_then {B = B} here w (gives a s) k m h = h a s ∙ again (k a s)
  where
    again : (p : Out Store B) → at_site here.site (record w { store = s }) p ≡ at_site here.site w p
    again (gives b t) = refl
    again (faults c) = refl
site_then {B = B} here w (faults c) k m h = refl

pub thawed_is : (fs : List Frozen) (here : Here) (w : World) → thaw_block fs here w ≡ at_site here.site w (thaw_names fs w.store)
thawed_is [] here w = refl
thawed_is (f ∷ fs) here w = site_then here w (thaw f.value w.store) _ _ (λ x s.
    let u = record w { store = s } in
    ap (λ o. then_runs o (λ block. pure ((f.name, Some x) ∷ block))) (thawed_is fs here u)
    ∙ site_then here u (thaw_names fs s) _ _ (λ block t. refl))

pub thawed_defaults_is : (ds : List Defaults) (here : Here) (w : World) → thawed_defaults ds here w ≡ at_site here.site w (thaw_defaults ds w.store)
thawed_defaults_is [] here w = refl
thawed_defaults_is (d ∷ ds) here w = site_then here w (thaw_members d.values w.store) _ _ (λ xs s.
    let u = record w { store = s } in
    ap (λ o. then_runs o (λ rest. pure ((d.name, xs) ∷ rest))) (thawed_defaults_is ds here u)
    ∙ site_then here u (thaw_defaults ds s) _ _ (λ rest t. refl))

-- ---- the names of a module: its own, then those that its loads bound, then the defaults

abbrev rest_defaults : Body → Here → Block → Block → World → Ends (Unit {0})
rest_defaults body here own loaded w = then_runs (thawed_defaults body.defaults here w) (λ ds. add_names (record { label = body.label; block = own ++ loaded; defaults = ds }))

abbrev rest_loaded : Body → Here → Block → World → Ends (Unit {0})
rest_loaded body here own w = then_runs (thaw_block body.loaded here w) (λ loaded. rest_defaults body here own loaded)

body_is : (body : Body) (here : Here) (w : World) → thaw_body (Some body) here w ≡ then_runs (at_site here.site w (thaw_names body.own w.store)) (λ own. rest_loaded body here own)
body_is body here w = ap (λ o. then_runs o (λ own. rest_loaded body here own)) (thawed_is body.own here w)

loaded_is : (body : Body) (here : Here) (own : Block) (w : World) → rest_loaded body here own w ≡ then_runs (at_site here.site w (thaw_names body.loaded w.store)) (λ loaded. rest_defaults body here own loaded)
loaded_is body here own w = ap (λ o. then_runs o (λ loaded. rest_defaults body here own loaded)) (thawed_is body.loaded here w)

defaults_are : (body : Body) (here : Here) (own loaded : Block) (w : World) → rest_defaults body here own loaded w ≡ then_runs (at_site here.site w (thaw_defaults body.defaults w.store)) (λ ds. add_names (record { label = body.label; block = own ++ loaded; defaults = ds }))
defaults_are body here own loaded w = ap (λ o. then_runs o (λ ds. add_names (record { label = body.label; block = own ++ loaded; defaults = ds }))) (thawed_defaults_is body.defaults here w)

whole : (o : Out Store Block) → behind [] o ≡ o
whole (gives b s) = refl
whole (faults c) = refl

-- what was put after a block
pub record Behind (o : Out Store Block) (b made : Block) (s : Store) : Type 0 where
  pub more : Block
  pub out : o ≡ gives more s
  pub joined : made ≡ b ++ more

behind_gives : (o : Out Store Block) (b made : Block) (s : Store) → behind b o ≡ gives made s → Behind o b made s
behind_gives (gives m t) b made s e =
    let same : t ≡ s = cc in
    record { more = m; out = ap (λ u. gives m u) same; joined = cc }
behind_gives (faults c) b made s e = absurd cc

behind_stops : (o : Out Store Block) (b : Block) (c : ℕ) → behind b o ≡ faults c → o ≡ faults c
behind_stops (gives m t) b c e = absurd cc
behind_stops (faults d) b c e = e

own_done : (body : Body) (here : Here) (w : World) (b : Block) (s : Store) → behind [] (thaw_names body.own w.store) ≡ gives b s → thaw_body (Some body) here w ≡ rest_loaded body here b (record w { store = s })
own_done body here w b s e = body_is body here w ∙ ap (λ o. then_runs (at_site here.site w o) (λ own. rest_loaded body here own)) (sym (whole (thaw_names body.own w.store)) ∙ e)

loaded_done : (body : Body) (here : Here) (w : World) (own loaded : Block) (s : Store) → thaw_names body.loaded w.store ≡ gives loaded s → rest_loaded body here own w ≡ rest_defaults body here own loaded (record w { store = s })
loaded_done body here w own loaded s e = loaded_is body here own w ∙ ap (λ o. then_runs (at_site here.site w o) (λ loaded. rest_defaults body here own loaded)) e

pub body_goes : (body : Body) (here : Here) (w : World) (b d : Block) (ds : List (List ℕ × List Val)) (s t u : Store) → behind [] (thaw_names body.own w.store) ≡ gives b s → behind b (thaw_names body.loaded s) ≡ gives d t → thaw_defaults body.defaults t ≡ gives ds u → thaw_body (Some body) here w ≡ ended tt (record w { store = u; files = w.files ++ record { label = body.label; block = d; defaults = ds } ∷ [] })
body_goes body here w b d ds s t u first second third =
    let split : Behind (thaw_names body.loaded s) b d t = behind_gives (thaw_names body.loaded s) b d t second in
    own_done body here w b s first
    ∙ loaded_done body here (record w { store = s }) b split.more t split.out
    ∙ defaults_are body here b split.more (record w { store = t })
    ∙ ap (λ o. then_runs (at_site here.site (record w { store = t }) o) (λ ds. add_names (record { label = body.label; block = b ++ split.more; defaults = ds }))) third
    ∙ ap (λ (l : Block). ended tt (record w { store = u; files = w.files ++ record { label = body.label; block = l; defaults = ds } ∷ [] })) (sym split.joined)

pub own_stops : (body : Body) (here : Here) (w u : World) (b : Block) (s : Store) (halt : Halt) → SaysBlock {A = Unit {0}} (behind [] (thaw_names body.own w.store)) (Err halt) b s → Ran here.site (thaw_body (Some body) here w) (Err halt) u
own_stops body here w u b s (Code c) e = body_is body here w ∙ ap (λ o. then_runs (at_site here.site w o) (λ own. rest_loaded body here own)) (sym (whole (thaw_names body.own w.store)) ∙ e)
own_stops body here w u b s (Memory _) e = tt

pub loaded_stops : (body : Body) (here : Here) (w v : World) (b d : Block) (s t : Store) (halt : Halt) → behind [] (thaw_names body.own w.store) ≡ gives b s → SaysBlock {A = Unit {0}} (behind b (thaw_names body.loaded s)) (Err halt) d t → Ran here.site (thaw_body (Some body) here w) (Err halt) v
loaded_stops body here w v b d s t (Code c) first e = own_done body here w b s first ∙ loaded_is body here b (record w { store = s }) ∙ ap (λ o. then_runs (at_site here.site (record w { store = s }) o) (λ loaded. rest_defaults body here b loaded)) (behind_stops (thaw_names body.loaded s) b c e)
loaded_stops body here w v b d s t (Memory _) first e = tt

pub defaults_stop : (body : Body) (here : Here) (w v : World) (b d : Block) (s t u : Store) (halt : Halt) → behind [] (thaw_names body.own w.store) ≡ gives b s → behind b (thaw_names body.loaded s) ≡ gives d t → SaysKept (thaw_defaults body.defaults t) (Err halt) u → Ran here.site (thaw_body (Some body) here w) (Err halt) v
defaults_stop body here w v b d s t u (Code c) first second e =
    let split : Behind (thaw_names body.loaded s) b d t = behind_gives (thaw_names body.loaded s) b d t second in
    own_done body here w b s first
    ∙ loaded_done body here (record w { store = s }) b split.more t split.out
    ∙ defaults_are body here b split.more (record w { store = t })
    ∙ ap (λ o. then_runs (at_site here.site (record w { store = t }) o) (λ ds. add_names (record { label = body.label; block = b ++ split.more; defaults = ds }))) e
defaults_stop body here w v b d s t u (Memory _) first second e = tt

-- ---- where names are needed

pub needed : (env : Env) (loads : List ModuleValue) (label : List ℕ) (here : Here) (w : World) (b : Bool) → env.loads ≡ loads → is_some (names_at label w.files) ≡ b → need_names env label here w ≡ cond b (pure tt) (thaw_body (body_at label (all_bodies loads)) here) w
unfolding need_names
needed env loads label here w b is e =
    ap (λ t. cond t (pure tt) (thaw_body (body_at label (all_bodies env.loads)) here) w) e
    ∙ ap (λ (ms : List ModuleValue). cond b (pure tt) (thaw_body (body_at label (all_bodies ms)) here) w) is

pub some_map : {A B : Type 0} (f : A → B) (o : Option A) → is_some (option_map f o) ≡ is_some o
some_map f None = refl
some_map f (Some a) = refl

-- ---- facts under other names of what they are about

pub names_fact : (b c : Block) (fs gs : List Frozen) (s t : Store) (r : Result (Unit {0}) Halt) (d : Block) → b ≡ c → fs ≡ gs → SaysBlock (behind b (thaw_names fs s)) r d t → SaysBlock (behind c (thaw_names gs s)) r d t
names_fact b c fs gs s t r d e f h = subst (λ (l : List Frozen). SaysBlock (behind c (thaw_names l s)) r d t) f (subst (λ (x : Block). SaysBlock (behind x (thaw_names fs s)) r d t) e h)

pub defaults_fact : (ds es : List Defaults) (s t : Store) (r : Result (Vec FunctionDefaults Global) Halt) → ds ≡ es → SaysKept (thaw_defaults ds s) r t → SaysKept (thaw_defaults es s) r t
defaults_fact ds es s t r e h = subst (λ (l : List Defaults). SaysKept (thaw_defaults l s) r t) e h

-- ---- items of a load

then_assoc : {A B C : Type 0} (e : Ends A) (k : A → World → Ends B) (m : B → World → Ends C) → then_runs (then_runs e k) m ≡ then_runs e (λ a w. then_runs (k a w) m)
then_assoc (ended a w) k m = refl
then_assoc (failed c site) k m = refl
then_assoc (waits ps) k m = refl

then_same : {A B : Type 0} (e : Ends A) (k m : A → World → Ends B) → ((a : A) (w : World) → k a w ≡ m a w) → then_runs e k ≡ then_runs e m
then_same (ended a w) k m h = h a w
then_same (failed c site) k m h = refl
then_same (waits ps) k m h = refl

-- the first item, and then the others
load_first : (body : Body) (i : It) (items : List It) (here : Here) (w : World) → load_items body (i ∷ items) here w ≡ then_runs (load_items body (i ∷ []) here w) (λ _. load_items body items here)
load_first body i items here w =
    then_same (or_fault 18 (export_of i.exported body) here w) _ _ (λ f u.
    then_same (on_heap here (thaw f) u) _ _ (λ x v. sym (then_assoc (bind i.local x here v) _ _))
    ∙ sym (then_assoc (on_heap here (thaw f) u) _ _))
    ∙ sym (then_assoc (or_fault 18 (export_of i.exported body) here w) _ _)

pub item_stops : (body : Body) (i : It) (items : List It) (here : Here) (w u : World) (halt : Halt) → Ran here.site (load_items body (i ∷ []) here w) (Err halt) u → Ran here.site (load_items body (i ∷ items) here w) (Err halt) u
item_stops body i items here w u (Code c) h = load_first body i items here w ∙ ap (λ o. then_runs o (λ _. load_items body items here)) h
item_stops body i items here w u (Memory _) h = tt

bound : (body : Body) (i : It) (here : Here) (w : World) (f : Fz) (x : Val) (s : Store) → export_of i.exported body ≡ Some f → thaw f w.store ≡ gives x s → load_items body (i ∷ []) here w ≡ then_runs (bind i.local x here (record w { store = s })) (λ _. pure tt)
bound body i here w f x s e g =
    let last = λ (x : Val). bind i.local x here >>= λ _. pure tt in
    ap (λ o. then_runs (or_fault 18 o here w) (λ f. on_heap here (thaw f) >>= last)) e
    ∙ ap (λ o. then_runs (at_site here.site w o) last) g

pub item_ends : (body : Body) (i : It) (here : Here) (w u : World) (f : Fz) (x : Val) (s : Store) (r : Result (Unit {0}) Halt) → export_of i.exported body ≡ Some f → thaw f w.store ≡ gives x s → Ran here.site (bind i.local x here (record w { store = s })) r u → Ran here.site (load_items body (i ∷ []) here w) r u
item_ends body i here w u f x s (Ok a) e g h = bound body i here w f x s e g ∙ ap (λ o. then_runs o (λ _. pure tt)) h
item_ends body i here w u f x s (Err (Code c)) e g h = bound body i here w f x s e g ∙ ap (λ o. then_runs o (λ _. pure tt)) h
item_ends body i here w u f x s (Err (Memory _)) e g h = tt
