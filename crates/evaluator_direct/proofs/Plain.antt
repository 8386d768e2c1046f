-- Names of functions that every file has, and values that are not `native`.
use Rattle.std.proofs.Common.{◌≡◌, ℕ, List, [], ◌∷◌, Bool, true, false, cond, Option, None, Some, is_some, Result, refl, ap, sym, subst, ◌∙◌}
use Rattle.std.specs.Prelude.{codes, not, ◌&&◌, if◌then◌else◌}
use Rattle.std.specs.List.{list_any}
use Rattle.values_semantics.specs.declared.builtin.Builtin.{Builtin}
use Rattle.values_semantics.specs.Values.{builtin_value}
use Rattle.values_semantics.proofs.Builtins.{numbered}
use Rattle.values_semantics.specs.Builtins.{builtin_name, same_builtin, plain_functions, package_functions}
use lib.Pointwise.{bytes_decides}
use Rattle.values_semantics.specs.Comparing.{same_text}
use Rattle.syntax_grammar.specs.declared.kind.FileKind.{FileKind}
use Rattle.syntax_grammar.specs.declared.kind.FileKind.TheVariants as k
use Rattle.syntax_tree.specs.Tree as t
use Rattle.syntax_tree.specs.Tree.{Ex}
use Rattle.values_objects.specs.declared.halt.Halt.{Halt}
use Rattle.values_semantics.specs.declared.val.Val.{Val}
use Rattle.values_semantics.specs.Outcome as o
use Rattle.values_semantics.specs.Heap.{Store, walks}
use Rattle.values_semantics.specs.Functions.{KeywordArguments, builtin}
use Rattle.values_semantics.specs.Methods.{method}
use Rattle.evaluator_semantics.specs.World.{World, Here, Ends, ended, failed, waits, Runs, then_runs, ◌>>=◌, pure, fault, or_fault, on_heap, tick}
use Rattle.evaluator_semantics.specs.Environment.{Env}
use Rattle.evaluator_semantics.specs.Packages.{package_call}
use Rattle.evaluator_semantics.specs.Expressions.{Call, value, apply, apply_method, on_receiver, Receiver, native, receiver, call_builtin}
use Rattle.evaluator_state.specs.declared.state.Scope.{Scope}
use Rattle.evaluator_state.specs.Scope.{is_free}
use Rattle.evaluator_state.specs.View.{Ran}
use Rattle.evaluator_direct.proofs.Runs.{ticked}
use Rattle.evaluator_semantics.specs.Names.{first_named, universal, is_native, is_native_name, slot, read, read_slot, or_else}
use Rattle.evaluator_state.proofs.Searches.{first_append, read_is}
use Rattle.evaluator_direct.specs.Quiet.{is_plain, plain_of, is_word_native}

abbrev Others : List Builtin → Type 0
Others [] = Unit {0}
Others (f ∷ fs) = (list_any (same_builtin f) package_functions ≡ false) × Others fs

other_at : (c : Bool) (f b : Builtin) (o : Option Builtin) → list_any (same_builtin f) package_functions ≡ false → (o ≡ Some b → list_any (same_builtin b) package_functions ≡ false) → cond c (Some f) o ≡ Some b → list_any (same_builtin b) package_functions ≡ false
other_at true f b o here more h = let e : f ≡ b = cc in rw (← e) here
other_at false f b o here more h = more h

named_other : (x : List ℕ) (fs : List Builtin) (b : Builtin) → Others fs → first_named x fs ≡ Some b → list_any (same_builtin b) package_functions ≡ false
named_other x [] b o h = absurd cc
named_other x (f ∷ fs) b o h = other_at (same_text x (builtin_name f)) f b (first_named x fs) o.0 (named_other x fs b o.1) h

-- a function that every file has is no package call
pub no_package : (x : List ℕ) (b : Builtin) → first_named x plain_functions ≡ Some b → list_any (same_builtin b) package_functions ≡ false
no_package x b h = named_other x plain_functions b (refl, (refl, (refl, (refl, (refl, (refl, (refl, (refl, (refl, (refl, (refl, (refl, (refl, (refl, (refl, (refl, (refl, (refl, tt)))))))))))))))))) h

word_is : (x : List ℕ) (b : Builtin) (c : Bool) → same_text x (codes "native") ≡ c → first_named x plain_functions ≡ Some b → c ≡ false
word_is x b false e h = refl
word_is x b true e h =
    let same : x ≡ codes "native" = (bytes_decides x (codes "native")).0 e in
    let none : first_named (codes "native") plain_functions ≡ None = refl in
    let some : first_named x plain_functions ≡ None = ap (λ y. first_named y plain_functions) same ∙ none in
    absurd cc

not_native : (kind : FileKind) (x : List ℕ) (b : Builtin) → first_named x plain_functions ≡ Some b → is_native kind x ≡ false
not_native k.Build x b h = refl
not_native k.Bzl x b h = word_is x b (same_text x (codes "native")) refl h

universal_is : (kind : FileKind) (x : List ℕ) (b : Builtin) → first_named x plain_functions ≡ Some b → universal kind x ≡ Some b
universal_is k.Build x b h = first_append x plain_functions package_functions ∙ ap (λ o. or_else o (first_named x package_functions)) h
universal_is k.Bzl x b h = h

-- what a name gives that nothing hides
pub read_plain : (x : List ℕ) (b : Builtin) (here : Here) (w : World) → slot x here w ≡ None → first_named x plain_functions ≡ Some b → read x here w ≡ ended (builtin_value b) w
read_plain x b here w free h =
    read_is x here w
    ∙ ap (λ o. read_slot o x here w) free
    ∙ ap (λ c. (if c then fault 5 here else (or_fault 4 (universal here.kind x) here >>= λ f. pure (builtin_value f))) w) (not_native here.kind x b h)
    ∙ ap (λ o. (or_fault 4 o here >>= λ f. pure (builtin_value f)) w) (universal_is here.kind x b h)

word_hidden : (c : Bool) (kind : FileKind) (x : List ℕ) → same_text x (codes "native") ≡ false → (if c then false else is_native kind x) ≡ false
word_hidden true kind x h = refl
word_hidden false k.Build x h = refl
word_hidden false k.Bzl x h = h

-- an expression that is not the word `native` is none of its names
pub no_native : (e : Ex) (here : Here) (w : World) → is_word_native e ≡ false → is_native_name e here w ≡ false
no_native (t.name x) here w h = word_hidden (is_some (slot x here w)) here.kind x h
no_native (t.int n) here w h = refl
no_native (t.str x) here w h = refl
no_native (t.literal l) here w h = refl
no_native (t.tuple es) here w h = refl
no_native (t.list es) here w h = refl
no_native (t.dict ks es) here w h = refl
no_native (t.list_of e cs) here w h = refl
no_native (t.dict_of d e cs) here w h = refl
no_native (t.unary op e) here w h = refl
no_native (t.binary op a b) here w h = refl
no_native (t.choice a c b) here w h = refl
no_native (t.index a i) here w h = refl
no_native (t.slice a i j) here w h = refl
no_native (t.call f es names) here w h = refl
no_native (t.method e name es names) here w h = refl

unhidden : {A : Type 0} (o : Option A) → not (is_some o) ≡ true → o ≡ None
unhidden None h = refl
unhidden (Some a) h = absurd cc

both_hold : (a b : Bool) → (a && b) ≡ true → a ≡ true
both_hold true b h = refl
both_hold false b h = absurd cc

-- the name of a function that every file has, and what is done with it
pub plain_call : (env : Env) (call : Call) (scope : Scope) (f : Ex) (g : Builtin) (k : Val → Runs Val) (here : Here) (w : World) (s : Store) (r : Result Val Halt) (u : World) → ((x : List ℕ) → not (is_some (slot x here (record w { store = s }))) ≡ is_free scope x) → is_plain (is_free scope) f ≡ true → plain_of f ≡ Some g → walks (λ objects. o.tick) w.store ≡ o.gives tt s → Ran here.site (k (builtin_value g) (record w { store = s })) r u → Ran here.site (then_runs (value env call f here w) k) r u
plain_call env call scope (t.name x) g k here w s r u same plain named ticks h =
    let free : slot x here (record w { store = s }) ≡ None = unhidden (slot x here (record w { store = s })) (same x ∙ both_hold (is_free scope x) (is_some (first_named x plain_functions)) plain) in
    let reads : read x here (record w { store = s }) ≡ ended (builtin_value g) (record w { store = s }) = read_plain x g here (record w { store = s }) free named in
    subst (λ q. Ran here.site (then_runs q k) r u) (sym (ticked (read x here) here w s ticks ∙ reads)) h
plain_call env call scope (t.int n) g k here w s r u same plain named ticks h = absurd cc
plain_call env call scope (t.str x) g k here w s r u same plain named ticks h = absurd cc
plain_call env call scope (t.literal l) g k here w s r u same plain named ticks h = absurd cc
plain_call env call scope (t.tuple es) g k here w s r u same plain named ticks h = absurd cc
plain_call env call scope (t.list es) g k here w s r u same plain named ticks h = absurd cc
plain_call env call scope (t.dict ks es) g k here w s r u same plain named ticks h = absurd cc
plain_call env call scope (t.list_of e cs) g k here w s r u same plain named ticks h = absurd cc
plain_call env call scope (t.dict_of d e cs) g k here w s r u same plain named ticks h = absurd cc
plain_call env call scope (t.unary op e) g k here w s r u same plain named ticks h = absurd cc
plain_call env call scope (t.binary op a b) g k here w s r u same plain named ticks h = absurd cc
plain_call env call scope (t.choice a c b) g k here w s r u same plain named ticks h = absurd cc
plain_call env call scope (t.index a i) g k here w s r u same plain named ticks h = absurd cc
plain_call env call scope (t.slice a i j) g k here w s r u same plain named ticks h = absurd cc
plain_call env call scope (t.call f es names) g k here w s r u same plain named ticks h = absurd cc
plain_call env call scope (t.method e name es names) g k here w s r u same plain named ticks h = absurd cc

-- a call of such a function
pub plain_applied : (env : Env) (call : Call) (f : Ex) (g : Builtin) (xs : List Val) (ns : KeywordArguments) (here : Here) → plain_of f ≡ Some g → apply env call (builtin_value g) xs ns here ≡ on_heap here (builtin g xs ns)
unfolding apply
plain_applied env call (t.name x) g xs ns here named = ap (λ h. call_builtin env h xs ns here) (numbered g) ∙ ap (λ c. if c then package_call env g xs ns here else on_heap here (builtin g xs ns)) (no_package x g named)
plain_applied env call (t.int n) g xs ns here named = absurd cc
plain_applied env call (t.str x) g xs ns here named = absurd cc
plain_applied env call (t.literal l) g xs ns here named = absurd cc
plain_applied env call (t.tuple es) g xs ns here named = absurd cc
plain_applied env call (t.list es) g xs ns here named = absurd cc
plain_applied env call (t.dict ks es) g xs ns here named = absurd cc
plain_applied env call (t.list_of e cs) g xs ns here named = absurd cc
plain_applied env call (t.dict_of d e cs) g xs ns here named = absurd cc
plain_applied env call (t.unary op e) g xs ns here named = absurd cc
plain_applied env call (t.binary op a b) g xs ns here named = absurd cc
plain_applied env call (t.choice a c b) g xs ns here named = absurd cc
plain_applied env call (t.index a i) g xs ns here named = absurd cc
plain_applied env call (t.slice a i j) g xs ns here named = absurd cc
plain_applied env call (t.call f es names) g xs ns here named = absurd cc
plain_applied env call (t.method e name es names) g xs ns here named = absurd cc

given_on : {A B : Type 0} (m : Ends Val) (f : Val → A) (k : A → Runs B) → then_runs (then_runs m (λ x. pure (f x))) k ≡ then_runs m (λ x. k (f x))
given_on (ended x w) f k = refl
given_on (failed c site) f k = refl
given_on (waits ps) f k = refl

-- what a method is called on
pub received : (e : Ex) (m : Runs Val) (k : Receiver → Runs Val) (here : Here) (w : World) (r : Result Val Halt) (u : World) → is_word_native e ≡ false → Ran here.site (then_runs (m w) (λ x. k (receiver x))) r u → Ran here.site (then_runs (on_receiver e m here w) k) r u
received e m k here w r u word h =
    let before = ap (λ c. then_runs ((if c then (tick here >>= λ _. pure native) else (m >>= λ x. pure (receiver x))) w) k) (no_native e here w word) in
    subst (λ q. Ran here.site q r u) (sym (before ∙ given_on (m w) receiver k)) h

pub method_applied : (env : Env) (x : Val) (name : List ℕ) (xs : List Val) (ns : KeywordArguments) (here : Here) → apply_method env (receiver x) name xs ns here ≡ on_heap here (method x name xs ns)
unfolding apply_method
method_applied env x name xs ns here = refl
