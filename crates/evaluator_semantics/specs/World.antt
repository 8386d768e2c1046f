-- What the evaluation of a file works on, and how a piece of it ends: with a value; at a fault, with its file and line;
-- or at a call of `glob` that has no answer yet.
use Rattle.std.specs.Prelude.{ℕ, List, ◌∷◌, Option, Some, None, if◌then◌else◌, drop}
use Rattle.syntax_grammar.specs.declared.kind.FileKind.{FileKind}
use Rattle.values_semantics.specs.declared.val.Val.{Val}
use Rattle.values_semantics.specs.Outcome as o
use Rattle.values_semantics.specs.Outcome.{Out, Does}
use Rattle.values_semantics.specs.Heap.{Store, walks}
use Rattle.values_semantics.specs.Operators.{is_true}
use Rattle.values_modules.specs.Values.{Target}

-- the names of a block, each once, with their values: None until a name is bound
abbrev pub Block : Type 0
Block = List (List ℕ × Option Val)

-- a file whose names are on the heap: by its label, with its functions' defaults
pub record Names : Type 0 where
  pub label : List ℕ
  pub block : Block
  pub defaults : List (List ℕ × List Val)

-- the blocks are those of the function that is executed: of its comprehensions, the innermost first, and of the
-- function itself; at file level there are those of comprehensions alone
pub record World : Type 0 where
  pub store : Store
  pub blocks : List Block
  pub files : List Names
  pub targets : List Target

-- where a fault is shown: a file, and the first line of the innermost statement begun and not ended
pub record Site : Type 0 where
  pub path : List ℕ
  pub line : ℕ

-- the position of an expression or a statement: its file, its line, and the functions that are being called, the last
-- one first
pub record Here : Type 0 where
  pub label : List ℕ
  pub kind : FileKind
  pub site : Site
  pub running : List (List ℕ × List ℕ)

abbrev pub at_line : ℕ → Here → Here
at_line line here = record here { site = record { path = here.site.path; line = line } }

pub data Ends (A : Type 0) : Type 0 where
  ended : A → World → Ends A
  failed : (code : ℕ) → Site → Ends A
  waits : (patterns : List (List ℕ)) → Ends A

abbrev pub Runs : Type 0 → Type 0
Runs A = World → Ends A

abbrev pub then_runs : {A B : Type 0} → Ends A → (A → Runs B) → Ends B
then_runs (ended a w) k = k a w
then_runs (failed c site) k = failed c site
then_runs (waits patterns) k = waits patterns

-- one piece, followed by another that is made from what the first gave
infixl 10 ◌>>=◌
abbrev pub ◌>>=◌ : {A B : Type 0} → Runs A → (A → Runs B) → Runs B
m >>= k = λ w. then_runs (m w) k

infixl 10 ◌>>◌
abbrev pub ◌>>◌ : {A B : Type 0} → Runs A → Runs B → Runs B
m >> k = λ w. then_runs (m w) (λ a. k)

abbrev pub pure : {A : Type 0} → A → Runs A
pure a = λ w. ended a w

abbrev pub fault : {A : Type 0} → ℕ → Here → Runs A
fault code here = λ w. failed code here.site

abbrev pub or_fault : {A : Type 0} → ℕ → Option A → Here → Runs A
or_fault code None here = fault code here
or_fault code (Some a) here = pure a

-- how a piece that works on the heap alone ends
abbrev pub at_site : {A : Type 0} → Site → World → Out Store A → Ends A
at_site site w (o.gives a s) = ended a (record w { store = s })
at_site site w (o.faults c) = failed c site

abbrev pub on_heap : {A : Type 0} → Here → Does Store A → Runs A
on_heap here m w = at_site here.site w (m w.store)

-- one step; if none is left, fault 11
unfoldable pub tick : Here → Runs (Unit {0})
tick here = on_heap here (walks λ heap. o.tick)

-- one of two pieces, by the truth of a value
abbrev pub by_truth : {A : Type 0} → Val → Runs A → Runs A → Runs A
by_truth x m n = λ w. (if is_true x w.store then m else n) w

-- ---- blocks

abbrev pub with_block : Block → World → World
with_block block w = record w { blocks = block ∷ w.blocks }

abbrev pub without_block : World → World
without_block w = record w { blocks = drop 1 w.blocks }

-- a piece with its own block inside those that are there
abbrev pub in_block : {A : Type 0} → Block → Runs A → Runs A
in_block block m = λ w. then_runs (m (with_block block w)) (λ a u. ended a (without_block u))

-- a piece with this block alone; after it the blocks are those that were there
abbrev pub with_blocks : List Block → World → World
with_blocks blocks w = record w { blocks = blocks }

abbrev pub in_blocks : {A : Type 0} → List Block → Runs A → Runs A
in_blocks blocks m = λ w. then_runs (m (with_blocks blocks w)) (λ a u. ended a (with_blocks w.blocks u))
