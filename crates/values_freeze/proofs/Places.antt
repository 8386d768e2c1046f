-- Thawing is blind to where it is: after other objects it gives the same objects, moved.
use Rattle.std.proofs.Common.{◌≡◌, ℕ, ◌+◌, Bool, true, false, cond, List, [], ◌∷◌, ◌++◌, length, map, refl, sym, ap, ◌∙◌, append_assoc, append-nil, add_assoc, add-zero}
use Rattle.std.proofs.lemmas.List.{map-append, length-map, length-append}
use Rattle.values_semantics.specs.declared.key.Part.{Part}
use Rattle.values_semantics.specs.declared.val.Val.{Val}
use Rattle.values_semantics.specs.declared.val.Val.TheVariants as v
use Rattle.values_semantics.specs.declared.val.Entry.{Entry}
use Rattle.values_semantics.specs.Outcome.{Out, gives, faults, and_then, ◌>>=◌, pure}
use Rattle.values_semantics.specs.Keys.{same_key}
use Rattle.values_semantics.specs.Heap as h
use Rattle.values_semantics.specs.Heap.{Obj, Store, Entries, makes}
use Rattle.values_semantics.specs.Indexing.{with_key}
use Rattle.values_semantics.specs.Freezing.{Fz, Fzs, Pairs, nothing, boolean, whole, built_in, text, list, tuple, dict, function, no_members, member, no_pairs, pair, frozen_key, thaw, thaw_members, thaw_pairs}
use Rattle.values_frozen_objects.specs.Shift.{moved_val, moved_entry, moved_pair, moved}
use Rattle.values_semantics.specs.Values.{bool_value, builtin_value}

-- ---- the values and objects that thawing makes, by how many objects are before them

abbrev behind : ℕ → List Obj → Obj → Val × List Obj
behind b os o = (v.At (b + length os), os ++ o ∷ [])

abbrev after_member : Val × List Obj → List Val × List Obj → List Val × List Obj
after_member x xs = (x.0 ∷ xs.0, x.1 ++ xs.1)

abbrev after_pair : Val × List Obj → Val × List Obj → Entries × List Obj → Entries × List Obj
after_pair x y es = (es.0, x.1 ++ y.1 ++ es.1)

abbrev mutual
  placed : Fz → ℕ → Val × List Obj
  placed nothing b = (v.Nothing, [])
  placed (boolean x) b = (bool_value x, [])
  placed (whole n) b = (v.Int n, [])
  placed (built_in f) b = (builtin_value f, [])
  placed (text bytes) b = (v.At b, h.text bytes ∷ [])
  placed (list fs) b = behind b (placed_members fs b).1 (h.list (placed_members fs b).0 true)
  placed (tuple fs) b = behind b (placed_members fs b).1 (h.tuple (placed_members fs b).0)
  placed (dict ps) b = behind b (placed_pairs [] ps b).1 (h.dict (placed_pairs [] ps b).0 true)
  placed (function label name) b = (v.At b, h.function label name ∷ [])

  placed_members : Fzs → ℕ → List Val × List Obj
  placed_members no_members b = ([], [])
  placed_members (member f fs) b = after_member (placed f b) (placed_members fs (b + length (placed f b).1))

  placed_pairs : Entries → Pairs → ℕ → Entries × List Obj
  placed_pairs es no_pairs b = (es, [])
  placed_pairs es (pair k f ps) b =
      after_pair (placed k b) (placed f (b + length (placed k b).1)) (placed_pairs (with_key (frozen_key k) (record { key = (placed k b).0; value = (placed f (b + length (placed k b).1)).0 }) es) ps (b + length (placed k b).1 + length (placed f (b + length (placed k b).1)).1))

-- ---- thawing gives these

abbrev grown : Store → List Obj → Store
grown s os = record s { heap = s.heap ++ os }

grown_not : (s : Store) → grown s [] ≡ s
grown_not s = ap (λ l. record s { heap = l }) (append-nil s.heap)

grown_twice : (s : Store) (os ps : List Obj) → grown (grown s os) ps ≡ grown s (os ++ ps)
grown_twice s os ps = ap (λ l. record s { heap = l }) (append_assoc s.heap os ps)

length_grown : (s : Store) (os : List Obj) → length (grown s os).heap ≡ length s.heap + length os
length_grown s os = length-append s.heap os

made : (s : Store) (os : List Obj) (o : Obj) → makes o (grown s os) ≡ gives (v.At (length s.heap + length os)) (grown s (os ++ o ∷ []))
made s os o = ap (λ n. gives (v.At n) (record s { heap = (s.heap ++ os) ++ o ∷ [] })) (length_grown s os) ∙ ap (λ t. gives (v.At (length s.heap + length os)) t) (grown_twice s os (o ∷ []))

mutual
  thaw_placed : (f : Fz) (s : Store) → thaw f s ≡ gives (placed f (length s.heap)).0 (grown s (placed f (length s.heap)).1)
  thaw_placed nothing s = ap (λ t. gives v.Nothing t) (sym (grown_not s))
  thaw_placed (boolean x) s = ap (λ t. gives (bool_value x) t) (sym (grown_not s))
  thaw_placed (whole n) s = ap (λ t. gives (v.Int n) t) (sym (grown_not s))
  thaw_placed (built_in f) s = ap (λ t. gives (builtin_value f) t) (sym (grown_not s))
  thaw_placed (text bytes) s = refl
  thaw_placed (list fs) s =
      let r = placed_members fs (length s.heap) in
      ap (λ o. and_then o (λ xs. makes (h.list xs true))) (members_placed fs s) ∙ made s r.1 (h.list r.0 true)
  thaw_placed (tuple fs) s =
      let r = placed_members fs (length s.heap) in
      ap (λ o. and_then o (λ xs. makes (h.tuple xs))) (members_placed fs s) ∙ made s r.1 (h.tuple r.0)
  thaw_placed (dict ps) s =
      let r = placed_pairs [] ps (length s.heap) in
      ap (λ o. and_then o (λ es. makes (h.dict es true))) (pairs_placed [] ps s) ∙ made s r.1 (h.dict r.0 true)
  thaw_placed (function label name) s = refl

  members_placed : (fs : Fzs) (s : Store) → thaw_members fs s ≡ gives (placed_members fs (length s.heap)).0 (grown s (placed_members fs (length s.heap)).1)
  members_placed no_members s = ap (λ t. gives [] t) (sym (grown_not s))
  members_placed (member f fs) s =
      let x = placed f (length s.heap) in
      let t = grown s x.1 in
      ap (λ o. and_then o (λ a. thaw_members fs >>= λ xs. pure (a ∷ xs))) (thaw_placed f s)
      ∙ ap (λ o. and_then o (λ xs. pure (x.0 ∷ xs))) (members_placed fs t)
      ∙ ap (λ n. gives (x.0 ∷ (placed_members fs n).0) (grown t (placed_members fs n).1)) (length_grown s x.1)
      ∙ ap (λ u. gives (x.0 ∷ (placed_members fs (length s.heap + length x.1)).0) u) (grown_twice s x.1 (placed_members fs (length s.heap + length x.1)).1)

  pairs_placed : (es : Entries) (ps : Pairs) (s : Store) → thaw_pairs es ps s ≡ gives (placed_pairs es ps (length s.heap)).0 (grown s (placed_pairs es ps (length s.heap)).1)
  pairs_placed es no_pairs s = ap (λ t. gives es t) (sym (grown_not s))
  pairs_placed es (pair k f ps) s =
      let b = length s.heap in
      let x = placed k b in
      let t = grown s x.1 in
      let c = b + length x.1 in
      let y = placed f c in
      let u = grown s (x.1 ++ y.1) in
      let set : Val → Val → Entries = λ a d. with_key (frozen_key k) (record { key = a; value = d }) es in
      let r = placed_pairs (set x.0 y.0) ps (c + length y.1) in
      let long : length u.heap ≡ c + length y.1 = length_grown s (x.1 ++ y.1) ∙ ap (λ n. b + n) (length-append x.1 y.1) ∙ sym (add_assoc b (length x.1) (length y.1)) in
      ap (λ o. and_then o (λ a. thaw f >>= λ d. thaw_pairs (set a d) ps)) (thaw_placed k s)
      ∙ ap (λ o. and_then o (λ d. thaw_pairs (set x.0 d) ps)) (thaw_placed f t)
      ∙ ap (λ n. thaw_pairs (set x.0 (placed f n).0) ps (grown t (placed f n).1)) (length_grown s x.1)
      ∙ ap (λ w. thaw_pairs (set x.0 y.0) ps w) (grown_twice s x.1 y.1)
      ∙ pairs_placed (set x.0 y.0) ps u
      ∙ ap (λ n. gives (placed_pairs (set x.0 y.0) ps n).0 (grown u (placed_pairs (set x.0 y.0) ps n).1)) long
      ∙ ap (λ w. gives r.0 w) (grown_twice s (x.1 ++ y.1) r.1)

-- ---- after more objects they are moved

abbrev shifted : ℕ → Val × List Obj → Val × List Obj
shifted b r = (moved_val b r.0, map (moved b) r.1)

abbrev shifted_members : ℕ → List Val × List Obj → List Val × List Obj
shifted_members b r = (map (moved_val b) r.0, map (moved b) r.1)

abbrev shifted_pairs : ℕ → Entries × List Obj → Entries × List Obj
shifted_pairs b r = (map (moved_pair b) r.0, map (moved b) r.1)

-- what follows is after as many objects, moved or not
further : (b c : ℕ) (os : List Obj) → b + c + length (map (moved b) os) ≡ b + (c + length os)
further b c os = ap (λ n. b + c + n) (length-map os (moved b)) ∙ add_assoc b c (length os)

behind_moved : (b c : ℕ) (os : List Obj) (o : Obj) → behind (b + c) (map (moved b) os) (moved b o) ≡ shifted b (behind c os o)
behind_moved b c os o = ap (λ n. (v.At n, map (moved b) os ++ moved b o ∷ [])) (further b c os) ∙ ap (λ l. (v.At (b + (c + length os)), l)) (sym (map-append (moved b) os (o ∷ [])))

if_moved : (b : ℕ) (same : Bool) (es fs : Entries) → cond same (map (moved_pair b) es) (map (moved_pair b) fs) ≡ map (moved_pair b) (cond same es fs)
if_moved b true es fs = refl
if_moved b false es fs = refl

key_moved : (b : ℕ) (k : List Part) (e : Entry) (es : Entries) → with_key k (moved_entry b e) (map (moved_pair b) es) ≡ map (moved_pair b) (with_key k e es)
key_moved b k e [] = refl
key_moved b k e (x ∷ xs) = ap (λ l. cond (same_key k x.0) ((x.0, moved_entry b e) ∷ map (moved_pair b) xs) (moved_pair b x ∷ l)) (key_moved b k e xs) ∙ if_moved b (same_key k x.0) ((x.0, e) ∷ xs) (x ∷ with_key k e xs)

mutual
  placed_moved : (f : Fz) (b c : ℕ) → placed f (b + c) ≡ shifted b (placed f c)
  placed_moved nothing b c = refl
  placed_moved (boolean true) b c = refl
  placed_moved (boolean false) b c = refl
  placed_moved (whole n) b c = refl
  placed_moved (built_in f) b c = refl
  placed_moved (text bytes) b c = refl
  placed_moved (list fs) b c =
      let r = placed_members fs c in
      ap (λ q. behind (b + c) q.1 (h.list q.0 true)) (members_moved fs b c) ∙ behind_moved b c r.1 (h.list r.0 true)
  placed_moved (tuple fs) b c =
      let r = placed_members fs c in
      ap (λ q. behind (b + c) q.1 (h.tuple q.0)) (members_moved fs b c) ∙ behind_moved b c r.1 (h.tuple r.0)
  placed_moved (dict ps) b c =
      let r = placed_pairs [] ps c in
      ap (λ q. behind (b + c) q.1 (h.dict q.0 true)) (pairs_moved [] ps b c) ∙ behind_moved b c r.1 (h.dict r.0 true)
  placed_moved (function label name) b c = refl

  members_moved : (fs : Fzs) (b c : ℕ) → placed_members fs (b + c) ≡ shifted_members b (placed_members fs c)
  members_moved no_members b c = refl
  members_moved (member f fs) b c =
      let x = placed f c in
      let d = c + length x.1 in
      let q = placed_members fs d in
      ap (λ p. after_member p (placed_members fs (b + c + length p.1))) (placed_moved f b c)
      ∙ ap (λ n. after_member (shifted b x) (placed_members fs n)) (further b c x.1)
      ∙ ap (λ r. after_member (shifted b x) r) (members_moved fs b d)
      ∙ ap (λ l. (moved_val b x.0 ∷ map (moved_val b) q.0, l)) (sym (map-append (moved b) x.1 q.1))

  pairs_moved : (es : Entries) (ps : Pairs) (b c : ℕ) → placed_pairs (map (moved_pair b) es) ps (b + c) ≡ shifted_pairs b (placed_pairs es ps c)
  pairs_moved es no_pairs b c = refl
  pairs_moved es (pair k f ps) b c =
      let x = placed k c in
      let d = c + length x.1 in
      let y = placed f d in
      let set : Val → Val → Entries → Entries = λ a z fs. with_key (frozen_key k) (record { key = a; value = z }) fs in
      let more = map (moved_pair b) es in
      let e = d + length y.1 in
      let q = placed_pairs (set x.0 y.0 es) ps e in
      let rest : Val × List Obj → Val × List Obj → ℕ → Entries × List Obj = λ p r n. after_pair p r (placed_pairs (set p.0 r.0 more) ps n) in
      ap (λ p. rest p (placed f (b + c + length p.1)) (b + c + length p.1 + length (placed f (b + c + length p.1)).1)) (placed_moved k b c)
      ∙ ap (λ n. rest (shifted b x) (placed f n) (n + length (placed f n).1)) (further b c x.1)
      ∙ ap (λ r. rest (shifted b x) r (b + d + length r.1)) (placed_moved f b d)
      ∙ ap (λ n. rest (shifted b x) (shifted b y) n) (further b d y.1)
      ∙ ap (λ fs. after_pair (shifted b x) (shifted b y) (placed_pairs fs ps (b + e))) (key_moved b (frozen_key k) (record { key = x.0; value = y.0 }) es)
      ∙ ap (λ r. after_pair (shifted b x) (shifted b y) r) (pairs_moved (set x.0 y.0 es) ps b e)
      ∙ ap (λ l. (map (moved_pair b) q.0, l ++ map (moved b) q.1)) (sym (map-append (moved b) x.1 y.1))
      ∙ ap (λ l. (map (moved_pair b) q.0, l)) (sym (map-append (moved b) (x.1 ++ y.1) q.1))

-- ---- the laws

-- a store with nothing on it
abbrev pub empty : Store
empty = record { heap = []; iterated = []; steps = 0 }

-- a value with the objects after it, where some are given
abbrev given : Val × List Obj → Out Store Val → Val × List Obj
given r (gives x s) = (x, s.heap)
given r (faults c) = r

-- what thawing gives on an empty heap, it gives after other objects, moved
pub thaw_moved : (f : Fz) (x : Val) (os : List Obj) → thaw f empty ≡ gives x (record empty { heap = os }) → (s : Store) → thaw f s ≡ gives (moved_val (length s.heap) x) (record s { heap = s.heap ++ map (moved (length s.heap)) os })
thaw_moved f x os e s =
    let b = length s.heap in
    let first : placed f 0 ≡ (x, os) = ap (given (x, os)) (sym (thaw_placed f empty) ∙ e) in
    thaw_placed f s ∙ ap (λ r. gives r.0 (grown s r.1)) (ap (placed f) (sym (add-zero b)) ∙ placed_moved f b 0 ∙ ap (shifted b) first)
