-- Frozen values: what a file's evaluation leaves, apart from any heap.
use Rattle.std.specs.Prelude.{ℕ, zero, suc, ℤ, Bool, true, List, [], ◌∷◌, ◌++◌, Option, Some, None, slice_get, false}
use Rattle.values_semantics.specs.declared.key.Part.{Part}
use Rattle.values_semantics.specs.declared.key.Part.TheVariants as p
use Rattle.values_semantics.specs.declared.builtin.Builtin.{Builtin}
use Rattle.values_semantics.specs.declared.val.Val.{Val}
use Rattle.values_semantics.specs.declared.val.Val.TheVariants as v
use Rattle.values_semantics.specs.Values.{bool_value, builtin_value}
use Rattle.values_semantics.specs.Builtins.{builtin_at}
use Rattle.values_semantics.specs.declared.val.Entry.{Entry}
use Rattle.values_semantics.specs.Outcome.{Does, ◌>>=◌, ◌>>◌, pure, fault, tick}
use Rattle.values_semantics.specs.Heap as h
use Rattle.values_semantics.specs.Indexing.{with_key}
use Rattle.values_semantics.specs.Heap.{Entries, Obj, Store, walks, makes}
use Rattle.values_semantics.specs.declared.faults.TheConstants.{TOO_DEEP, WRONG_TYPE}

mutual
  -- a function is its file's label and its name
  pub data Fz : Type 0 where
    nothing : Fz
    boolean : Bool → Fz
    whole : ℤ → Fz
    built_in : Builtin → Fz
    text : List ℕ → Fz
    list : Fzs → Fz
    tuple : Fzs → Fz
    dict : Pairs → Fz
    function : (label name : List ℕ) → Fz

  pub data Fzs : Type 0 where
    no_members : Fzs
    member : Fz → Fzs → Fzs

  -- keys and values in the dictionary's order
  pub data Pairs : Type 0 where
    no_pairs : Pairs
    pair : (key value : Fz) → Pairs → Pairs

-- what a value is to freezing: a frozen value directly, or one made from its members; a place that is not there is
-- fault 5
pub data FreezeShape : Type 0 where
  settled : Fz → FreezeShape
  listed : List Val → FreezeShape
  tupled : List Val → FreezeShape
  mapped : Entries → FreezeShape
  absent : FreezeShape

abbrev pub freeze_shape : Option Obj → FreezeShape
freeze_shape (Some (h.text bytes)) = settled (text bytes)
freeze_shape (Some (h.list members f)) = listed members
freeze_shape (Some (h.tuple members)) = tupled members
freeze_shape (Some (h.dict entries f)) = mapped entries
freeze_shape (Some (h.function label name)) = settled (function label name)
freeze_shape None = absent

abbrev pub held : List Obj → Val → FreezeShape
held heap v.Nothing = settled nothing
held heap v.True = settled (boolean true)
held heap v.False = settled (boolean false)
held heap (v.Int n) = settled (whole n)
held heap (v.Builtin n) = settled (built_in (builtin_at n))
held heap (v.At place) = freeze_shape (slice_get heap place)

abbrev pub freeze_members : (Val → Does ℕ Fz) → List Val → Does ℕ Fzs
freeze_members freeze [] = pure no_members
freeze_members freeze (x ∷ xs) = freeze x >>= λ f. freeze_members freeze xs >>= λ fs. pure (member f fs)

-- the key first
abbrev pub freeze_entry : (Val → Does ℕ Fz) → Entry → Does ℕ (Fz × Fz)
freeze_entry freeze e = freeze e.key >>= λ k. freeze e.value >>= λ x. pure (k, x)

abbrev pub freeze_entries : (Val → Does ℕ Fz) → Entries → Does ℕ Pairs
freeze_entries freeze [] = pure no_pairs
freeze_entries freeze (e ∷ es) = freeze_entry freeze e.1 >>= λ p. freeze_entries freeze es >>= λ ps. pure (pair p.0 p.1 ps)

abbrev pub at_once : Fz → Does ℕ Fz
at_once f = tick >> pure f

abbrev pub visit_held : Option (Val → Does ℕ Fz) → FreezeShape → Does ℕ Fz
visit_held inner (settled f) = at_once f
visit_held inner absent = tick >> fault WRONG_TYPE
visit_held None (listed xs) = fault TOO_DEEP
visit_held None (tupled xs) = fault TOO_DEEP
visit_held None (mapped es) = fault TOO_DEEP
visit_held (Some freeze) (listed xs) = tick >> (freeze_members freeze xs >>= λ fs. pure (list fs))
visit_held (Some freeze) (tupled xs) = tick >> (freeze_members freeze xs >>= λ fs. pure (tuple fs))
visit_held (Some freeze) (mapped es) = tick >> (freeze_entries freeze es >>= λ ps. pure (dict ps))

-- the tree of a value, at most 64 containers deep; each value visited is a step, even if it was frozen before
unfoldable pub freeze : ℕ → List Obj → Val → Does ℕ Fz
freeze zero heap x = visit_held None (held heap x)
freeze (suc n) heap x = visit_held (Some (freeze n heap)) (held heap x)

-- the walk for what is in a container, if one more may be entered
unfoldable pub inner_freeze : ℕ → List Obj → Option (Val → Does ℕ Fz)
inner_freeze zero heap = None
inner_freeze (suc n) heap = Some (freeze n heap)

-- freezing begins outside of all containers
abbrev pub freezes : Val → Does Store Fz
freezes x = walks λ heap. freeze 64 heap x

abbrev mutual
  pub frozen_key : Fz → List Part
  frozen_key nothing = p.Nothing ∷ []
  frozen_key (boolean b) = p.Bool b ∷ []
  frozen_key (whole n) = p.Int n ∷ []
  frozen_key (built_in b) = []
  frozen_key (text bytes) = p.Text bytes ∷ []
  frozen_key (list fs) = []
  frozen_key (tuple fs) = p.Tuple (how_many fs) ∷ frozen_keys fs
  frozen_key (dict ps) = []
  frozen_key (function label name) = []

  pub frozen_keys : Fzs → List Part
  frozen_keys no_members = []
  frozen_keys (member f fs) = frozen_key f ++ frozen_keys fs

  pub how_many : Fzs → ℕ
  how_many no_members = 0
  how_many (member f fs) = suc (how_many fs)

-- a frozen value on a heap: its lists and dictionaries cannot be changed. It takes no steps
abbrev mutual
  pub thaw : Fz → Does Store Val
  thaw nothing = pure v.Nothing
  thaw (boolean b) = pure (bool_value b)
  thaw (whole n) = pure (v.Int n)
  thaw (built_in b) = pure (builtin_value b)
  thaw (text bytes) = makes (h.text bytes)
  thaw (list fs) = thaw_members fs >>= λ xs. makes (h.list xs true)
  thaw (tuple fs) = thaw_members fs >>= λ xs. makes (h.tuple xs)
  thaw (dict ps) = thaw_pairs [] ps >>= λ es. makes (h.dict es true)
  thaw (function label name) = makes (h.function label name)

  pub thaw_members : Fzs → Does Store (List Val)
  thaw_members no_members = pure []
  thaw_members (member f fs) = thaw f >>= λ x. thaw_members fs >>= λ xs. pure (x ∷ xs)

  -- the entries, set one after another
  pub thaw_pairs : Entries → Pairs → Does Store Entries
  thaw_pairs es no_pairs = pure es
  thaw_pairs es (pair k f ps) = thaw k >>= λ x. thaw f >>= λ y. thaw_pairs (with_key (frozen_key k) (record { key = x; value = y }) es) ps

-- one entry
abbrev pub thaw_entry : Entries → (Fz × Fz) → Does Store Entries
thaw_entry es p = thaw p.0 >>= λ x. thaw p.1 >>= λ y. pure (with_key (frozen_key p.0) (record { key = x; value = y }) es)
