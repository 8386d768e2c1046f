-- The cycle that a node shows is that to which the loads of the files lead.
use Rattle.std.proofs.Common.{◌≡◌, ◌≢◌, ℕ, List, [], ◌∷◌, map, true, ◌⊎◌, inl, inr, Result, refl, sym, ap, subst, ◌∙◌}
use Rattle.std.specs.List.{AllByRecursion, filter_map}
use Rattle.engine_semantics.specs.Value as walks
use Rattle.engine_semantics.specs.Value.{In, first, after, AllDiffer, Grounded, IsUngrounded, Stops, Walk, Cyclic}
use Rattle.engine_semantics.specs.Rotation.{rotated}
use Rattle.labels.specs.Paths.{is_package_name}
use Rattle.labels.specs.Labels.{Target, label_text}
use Rattle.filetree.specs.Files.{Files}
use Rattle.filetree.specs.Lawful.{HasPaths}
use Rattle.keys.specs.declared.key.Key.{Key}
use Rattle.keys.specs.declared.key.Key.TheVariants as key
use Rattle.keys.specs.declared.value.Fault.{Fault}
use Rattle.keys.specs.declared.value.Value.{Value}
use Rattle.keys.specs.declared.value.Value.TheVariants as value
use Rattle.keys.specs.Cycles as cycles
use Rattle.keys.specs.Cycles.{cycle}
use Rattle.functions.specs.Next.{next}
use Rattle.keys.specs.Leaves.{read}
use Rattle.functions.specs.Loads.{Node, of_module, of_package, File, loads_in, loads, Path, stay, load, ReachesCycle, FirstCyclic, at_head, further, Follows, once, more, ShowsCycle}
use Rattle.functions.specs.FilePackages.{Module, IsModule, AreModules, none, one, of_file, of_load, evaluated}
use Rattle.functions.proofs.GroupKeys.{load_of, module_value}
use Rattle.functions.proofs.NodeLoads.{IsValid, one_label}
use Rattle.functions.proofs.Halting as halting
use Rattle.functions.proofs.Halting.{FirstLoad, key_of, IsNode, node_stops}

module _ (files : Files) where
  -- ---- a module that has a value reaches no cycle

  -- a node that reaches a cycle loads one that does
  pub record Nearer (n : Node) : Type 0 where
    pub loaded : Target
    pub is_load : In loaded (loads files n)
    pub reaches : ReachesCycle files (of_module loaded)

  pub nearer : (n : Node) → ReachesCycle files n → Nearer n
  nearer n c = go c.comes refl
    where
      go : {m : Node} → Path files n m → m ≡ of_module c.twice → Nearer n
      go stay same =
          record {
            loaded = c.next;
            is_load = subst (λ (m : Node). In c.next (loads files m)) (sym same) c.loads_next;
            reaches = record { twice = c.twice; next = c.next; comes = c.returns; loads_next = c.loads_next; returns = c.returns };
          }
      go (load {t = t} is_load path) same =
          record { loaded = t; is_load = is_load; reaches = record { twice = c.twice; next = c.next; comes = subst (λ (m : Node). Path files (of_module t) m) same path; loads_next = c.loads_next; returns = c.returns } }

  pub no_member : {X : Type 0} {x : X} {xs : List X} → In x xs → xs ≡ [] → ⊥
  no_member first e = absurd cc
  no_member (after i) e = absurd cc

  mutual
    pub acyclic : {t : Target} {m : Module} → IsModule files t m → ReachesCycle files (of_module t) → ⊥
    acyclic {t = t} (of_file e) c = let r = nearer (of_module t) c in no_member r.is_load (ap (λ (f : Result File Fault). loads_in f) e)
    acyclic {t = t} (of_load e are faults) c =
        let r = nearer (of_module t) c in all_acyclic are (subst (λ (ts : List Target). In r.loaded ts) (ap (λ (f : Result File Fault). loads_in f) e) r.is_load) r.reaches
    acyclic {t = t} (evaluated e are all leaves) c =
        let r = nearer (of_module t) c in all_acyclic are (subst (λ (ts : List Target). In r.loaded ts) (ap (λ (f : Result File Fault). loads_in f) e) r.is_load) r.reaches

    pub all_acyclic : {ts : List Target} {modules : List Module} {u : Target} → AreModules files ts modules → In u ts → ReachesCycle files (of_module u) → ⊥
    all_acyclic none i c = no_member i refl
    all_acyclic (one is are) first c = acyclic is c
    all_acyclic (one is are) (after i) c = all_acyclic are i c

  -- ---- a walk along nodes that stop

  module _ (good : HasPaths files) where
    -- the node stops at the load
    record Stop (n : Node) (u : Target) : Type 0 where
      valid : AllByRecursion IsValid (loads files n)
      is_first : FirstLoad files good (loads files n) u

    -- from a node by way of these modules to the last one, each of which stops at the next
    data Goes : Node → List Target → Target → Type 0 where
      last : {n : Node} {m : Target} → Stop n m → Goes n [] m
      by : {n : Node} {t m : Target} {ts : List Target} → Stop n t → Goes (of_module t) ts m → Goes n (t ∷ ts) m

    is_member : {ts : List Target} {u : Target} → FirstLoad files good ts u → In u ts
    is_member (halting.at_head p) = first
    is_member (halting.further g behind) = after (is_member behind)

    member_valid : {ts : List Target} {u : Target} → AllByRecursion IsValid ts → In u ts → IsValid u
    member_valid all first = all.0
    member_valid all (after i) = member_valid all.1 i

    stop_valid : {n : Node} {u : Target} → Stop n u → IsValid u
    stop_valid s = member_valid s.valid (is_member s.is_first)

    along : {n m : Node} {ts : List Target} {u : Target} → Goes n ts u → Path files (of_module u) m → Path files n m
    along (last s) path = load (is_member s.is_first) path
    along (by s goes) path = load (is_member s.is_first) (along goes path)

    -- what comes back is a cycle
    loop : (u v : Target) (ts : List Target) → u ≡ v → Goes (of_module u) ts v → ReachesCycle files (of_module v)
    loop u v [] same (last s) = subst (λ (w : Target). ReachesCycle files (of_module w)) same (record { twice = u; next = v; comes = stay; loads_next = is_member s.is_first; returns = subst (λ (w : Target). Path files (of_module v) (of_module w)) (sym same) stay })
    loop u v (t ∷ ts) same (by s goes) =
        subst (λ (w : Target). ReachesCycle files (of_module w)) same
        (record { twice = u; next = t; comes = stay; loads_next = is_member s.is_first; returns = subst (λ (w : Target). Path files (of_module t) (of_module w)) (sym same) (along goes stay) })

    reach : {n : Node} {ts : List Target} {u : Target} → Goes n ts u → ReachesCycle files (of_module u) → ReachesCycle files n
    reach goes c = record { twice = c.twice; next = c.next; comes = along goes c.comes; loads_next = c.loads_next; returns = c.returns }

    -- a part of a walk
    record Part (n : Node) (keys : List Key) (j : Key) : Type 0 where
      by_way : List Target
      end : Target
      is_end : IsValid end
      keys_are : keys ≡ key_of files good n ∷ map load_of by_way
      end_is : j ≡ load_of end
      goes : Goes n by_way end

    walked : {k j : Key} {keys : List Key} → Walk next (read files) k keys j → (n : Node) → IsNode files good n → k ≡ key_of files good n
        → ((keys ≡ []) × (j ≡ key_of files good n)) ⊎ Part n keys j
    walked walks.stay n is same = inl (refl, same)
    walked {j = j} (walks.step {k = k} {groups = groups} {i = i} {keys = keys} e stops walk) n is same =
        let s = node_stops files good n groups i is (subst (λ (k : Key). Stops next (read files) (IsUngrounded next (read files)) k [] groups i) same stops) in
        let stop : Stop n s.0.target = record { valid = s.1; is_first = s.0.first } in
        let valid = stop_valid stop in
        elim (walked walk (of_module s.0.target) valid s.0.key) [
          | inl h ↦ inr (record { by_way = []; end = s.0.target; is_end = valid; keys_are = (λ x. same x ∷ h.0 x); end_is = h.1; goes = last stop })
          | inr p ↦ inr (record { by_way = s.0.target ∷ p.by_way; end = p.end; is_end = p.is_end; keys_are = (λ x. same x ∷ p.keys_are x); end_is = p.end_is; goes = by stop p.goes })
        ]

    -- ---- keys and targets

    same_target : (t u : Target) → IsValid t → IsValid u → load_of t ≡ load_of u → t ≡ u
    same_target t u is_t is_u e = let texts : label_text t ≡ label_text u = cc in one_label t u is_t is_u texts

    apart : (t : Target) (ts : List Target) → AllByRecursion (λ (j : Key). load_of t ≢ j) (map load_of ts) → AllByRecursion (λ (u : Target). t ≢ u) ts
    apart t [] h = tt
    apart t (u ∷ ts) h = ((λ e. h.0 (ap load_of e)), apart t ts h.1)

    all_differ : (ts : List Target) → AllDiffer (map load_of ts) → AllDiffer ts
    all_differ [] h = tt
    all_differ (t ∷ ts) h = (apart t ts h.0, all_differ ts h.1)

    labels_of : (ts : List Target) → filter_map cycles.label_of (map load_of ts) ≡ map label_text ts
    labels_of [] = refl
    labels_of (t ∷ ts) = ap (λ (xs : List (List ℕ)). label_text t ∷ xs) (labels_of ts)

    -- ---- the cycle that is shown

    abbrev pub Means : Type 0
    Means = (t : Target) (v : Value) → IsValid t → Grounded next (read files) (key.Module (label_text t)) v → (m : Module) × IsModule files t m × (v ≡ module_value m)

    module _ (means : Means) where
      first_cyclic : {ts : List Target} {u : Target} → AllByRecursion IsValid ts → FirstLoad files good ts u → ReachesCycle files (of_module u) → FirstCyclic files ts u
      first_cyclic all (halting.at_head p) c = at_head c
      first_cyclic all (halting.further {u = t} {v = v} g behind) c = further (acyclic (means t v all.0 g).1) (first_cyclic all.1 behind c)

      follows : {n : Node} {ts : List Target} {u : Target} → Goes n ts u → ReachesCycle files (of_module u) → Follows files n ts u
      follows (last s) c = once (first_cyclic s.valid s.is_first c)
      follows (by s goes) c = more (first_cyclic s.valid s.is_first (reach goes c)) (follows goes c)

      abbrev pub Shown : Node → Value → Type 0
      Shown n v = (labels : List (List ℕ)) × (v ≡ value.Cycle labels) × ShowsCycle files n labels

      shown : (n : Node) (u : Target) (before rest : List Target) (m : Key) (keys : List Key) (v : Value) → Goes n before u → Goes (of_module u) rest u → m ≡ load_of u → keys ≡ map load_of rest
          → AllDiffer (m ∷ keys) → v ≡ cycle (m ∷ keys) → Shown n v
      shown n u before rest m keys v comes returns is_m are differ is_value =
          let c = loop u u rest refl returns in
          let whole : m ∷ keys ≡ map load_of (u ∷ rest) = (λ i. is_m i ∷ are i) in (
            rotated (map label_text (u ∷ rest)),
            is_value ∙ ap cycle whole ∙ ap (λ (xs : List (List ℕ)). value.Cycle (rotated xs)) (labels_of (u ∷ rest)),
            record {
              first = u;
              before = before;
              rest = rest;
              comes = follows comes c;
              returns = follows returns c;
              differ = all_differ (u ∷ rest) (subst (λ (ks : List Key). AllDiffer ks) whole differ);
              shown = refl;
            },
          )

      heads : {K : Type 0} {x y : K} {xs ys : List K} → x ∷ xs ≡ y ∷ ys → (x ≡ y) × (xs ≡ ys)
      heads e = (cc, cc)

      no_empty : {K : Type 0} {x : K} {xs : List K} → x ∷ xs ≡ [] → ⊥
      no_empty e = absurd cc

      -- from a node on its own cycle
      on_loop : (n : Node) (v : Value) → IsNode files good n → (u : Target) (rest : List Target) (m : Key) (keys : List Key) → IsValid u → Goes n rest u → key_of files good n ≡ load_of u → m ≡ load_of u → keys ≡ map load_of rest
          → AllDiffer (m ∷ keys) → v ≡ cycle (m ∷ keys) → Shown n v
      on_loop (of_package name) v is u rest m keys is_u goes same is_m are differ is_value = absurd cc
      on_loop (of_module t) v is u rest m keys is_u goes same is_m are differ is_value =
          let one : t ≡ u = same_target t u is is_u same in
          shown (of_module t) u rest rest m keys v goes (subst (λ (w : Target). Goes (of_module w) rest u) one goes) is_m are differ is_value

      pub cycle_shown : (n : Node) (v : Value) → IsNode files good n → Cyclic next (read files) cycle (key_of files good n) v → Shown n v
      cycle_shown n v is c = elim (walked c.comes n is refl) [
        | inl h ↦ elim (walked c.returns n is h.1) [
          | inl e ↦ absurd (no_empty e.0)
          | inr p ↦ let parts = heads p.keys_are in on_loop n v is p.end p.by_way c.m c.rest p.is_end p.goes (sym h.1 ∙ p.end_is) p.end_is parts.1 c.once c.value
        ]
        | inr p ↦ elim (walked c.returns (of_module p.end) p.is_end p.end_is) [
          | inl e ↦ absurd (no_empty e.0)
          | inr q ↦
              let parts = heads q.keys_are in
              let one : q.end ≡ p.end = same_target q.end p.end q.is_end p.is_end (sym q.end_is ∙ p.end_is) in
              shown n p.end p.by_way q.by_way c.m c.rest v p.goes (subst (λ (w : Target). Goes (of_module p.end) q.by_way w) one q.goes) p.end_is parts.1 c.once c.value
        ]
      ]

-- the cycle that a module's node shows is that of the files' loads, where the modules with a value are those of the
-- files
pub cycle_shown_module : (files : Files) (good : HasPaths files)
    → ((t : Target) (v : Value) → IsValid t → Grounded next (read files) (key.Module (label_text t)) v → (m : Module) × IsModule files t m × (v ≡ module_value m))
    → (t : Target) (v : Value) → IsValid t → Cyclic next (read files) cycle (key.Module (label_text t)) v
    → (labels : List (List ℕ)) × (v ≡ value.Cycle labels) × ShowsCycle files (of_module t) labels
cycle_shown_module files good means t v is c = cycle_shown files good means (of_module t) v is c

-- and so is that of a package's node
pub cycle_shown_package : (files : Files) (good : HasPaths files)
    → ((t : Target) (v : Value) → IsValid t → Grounded next (read files) (key.Module (label_text t)) v → (m : Module) × IsModule files t m × (v ≡ module_value m))
    → (name : List ℕ) (v : Value) → is_package_name name ≡ true → Cyclic next (read files) cycle (key.Package name) v
    → (labels : List (List ℕ)) × (v ≡ value.Cycle labels) × ShowsCycle files (of_package name) labels
cycle_shown_package files good means name v is c = cycle_shown files good means (of_package name) v is c
