-- The own objects in pages: what is at a number, and what is changed.
use Rattle.std.proofs.Common.{◌≡◌, ℕ, zero, suc, ◌+◌, ◌*◌, ◌-◌, ◌/◌, ◌%◌, ◌<◌, ◌≤◌, List, [], ◌∷◌, ◌++◌, length, map, set, Option, Some, None, option_map, refl, sym, ap, ◌∙◌, arith, append_assoc}
use Rattle.std.specs.Prelude.{slice_get}
use Rattle.std.proofs.lemmas.List.{length-append, length-map, map-append, set-append_left, set-append_right}
use Rattle.std.proofs.lemmas.Nat.{div-add-mod'}
use Rattle.std.proofs.lemmas.Option.{slice_get-map}
use Rattle.std.proofs.Math.Nat.{mod-lt}
use Rattle.values_semantics.specs.Heap.{Obj}
use Rattle.values_objects.specs.declared.heap_object.HeapObject.{HeapObject}
use Rattle.values_objects.specs.declared.pages.Page.{Page}
use Rattle.values_objects.specs.Pages.{laid_pages, page_standings}
use Rattle.values_objects.specs.Own.{written_object}
use Rattle.values_objects.specs.Standings.{Standing, has_gone, is_gone, standing_of, object_in}
use Rattle.values_objects.specs.Wholes.{page_size}
use Rattle.values_objects.proofs.ListReads.{get_left, get_behind}
use Rattle.values_objects.proofs.WholePages.{gone_listed, map_written, object_listed, page_length}

as_long : (p : Page) → length (page_standings p) ≡ page_size
as_long p = page_length p.before.items p.after.items p.objects.items p.whole

as_many : (p : Page) → length (map object_in (page_standings p)) ≡ page_size
as_many p = length-map (page_standings p) object_in ∙ as_long p

some_is : {p q : Page} → Some p ≡ Some q → p ≡ q
some_is {p} e = ap from_some e
  where
    from_some : Option Page → Page
    from_some (Some x) = x
    from_some None = p

-- ---- what is at a number

pub page_at : (ps : List Page) (rest : List Standing) (q r : ℕ) (p : Page) → r < page_size → slice_get ps q ≡ Some p → slice_get (laid_pages ps rest) (q * page_size + r) ≡ slice_get (page_standings p) r
page_at [] rest q r p h e = cc
page_at (s ∷ ps) rest zero r p h e =
    ap (slice_get (page_standings s ++ laid_pages ps rest)) (omega arith) ∙ get_left (page_standings s) (laid_pages ps rest) r (omega (arith, h, as_long s)) ∙ ap (λ (t : Page). slice_get (page_standings t) r) (some_is e)
page_at (s ∷ ps) rest (suc q) r p h e =
    get_behind (page_standings s) (laid_pages ps rest) page_size (suc q * page_size + r) (as_long s) (omega arith)
    ∙ ap (slice_get (laid_pages ps rest)) (omega arith)
    ∙ page_at ps rest q r p h e

pub last_at : (ps : List Page) (rest : List Standing) (i : ℕ) → length ps * page_size ≤ i → slice_get (laid_pages ps rest) i ≡ slice_get rest (i - length ps * page_size)
last_at [] rest i h = ap (slice_get rest) (omega arith)
last_at (p ∷ ps) rest i h =
    get_behind (page_standings p) (laid_pages ps rest) page_size i (as_long p) (omega (arith, h))
    ∙ last_at ps rest (i - page_size) (omega (arith, h))
    ∙ ap (slice_get rest) (omega (arith, h))

pub laid_size : (ps : List Page) (rest : List Standing) → length (laid_pages ps rest) ≡ length ps * page_size + length rest
laid_size [] rest = omega arith
laid_size (p ∷ ps) rest =
    let both = length-append (page_standings p) (laid_pages ps rest) in
    let others = laid_size ps rest in
    omega (arith, both, others, as_long p)

-- ---- what is said of each object

parts : (p : Page) (ss : List Standing) → map object_in (page_standings p ++ ss) ≡ map object_in (page_standings p) ++ map object_in ss
parts p ss = map-append object_in (page_standings p) ss

pub same_in_page : (ps : List Page) (rest : List Standing) (q : ℕ) (p changed : Page) → slice_get ps q ≡ Some p → map object_in (page_standings changed) ≡ map object_in (page_standings p) → map object_in (laid_pages (set ps q changed) rest) ≡ map object_in (laid_pages ps rest)
same_in_page [] rest q p changed e is = refl
same_in_page (s ∷ ps) rest zero p changed e is =
    parts changed (laid_pages ps rest)
    ∙ ap (λ l. l ++ map object_in (laid_pages ps rest)) (is ∙ ap (λ (t : Page). map object_in (page_standings t)) (sym (some_is e)))
    ∙ sym (parts s (laid_pages ps rest))
same_in_page (s ∷ ps) rest (suc q) p changed e is =
    parts s (laid_pages (set ps q changed) rest)
    ∙ ap (λ l. map object_in (page_standings s) ++ l) (same_in_page ps rest q p changed e is)
    ∙ sym (parts s (laid_pages ps rest))

pub same_in_last : (ps : List Page) (xs ys : List Standing) → map object_in ys ≡ map object_in xs → map object_in (laid_pages ps ys) ≡ map object_in (laid_pages ps xs)
same_in_last [] xs ys is = is
same_in_last (p ∷ ps) xs ys is = parts p (laid_pages ps ys) ∙ ap (λ l. map object_in (page_standings p) ++ l) (same_in_last ps xs ys is) ∙ sym (parts p (laid_pages ps xs))

-- ---- a write

pub written_in_page : (ps : List Page) (rest : List Standing) (q r : ℕ) (p changed : Page) (x : Obj) → r < page_size → slice_get ps q ≡ Some p → map object_in (page_standings changed) ≡ set (map object_in (page_standings p)) r x → map object_in (laid_pages (set ps q changed) rest) ≡ set (map object_in (laid_pages ps rest)) (q * page_size + r) x
written_in_page [] rest q r p changed x h e is = cc
written_in_page (s ∷ ps) rest zero r p changed x h e is =
    parts changed (laid_pages ps rest)
    ∙ ap (λ l. l ++ map object_in (laid_pages ps rest)) (is ∙ ap (λ (t : Page). set (map object_in (page_standings t)) r x) (sym (some_is e)))
    ∙ sym (set-append_left (map object_in (page_standings s)) (map object_in (laid_pages ps rest)) r x (omega (arith, h, as_many s)))
    ∙ ap (λ l. set l r x) (sym (parts s (laid_pages ps rest)))
    ∙ ap (λ n. set (map object_in (page_standings s ++ laid_pages ps rest)) n x) (omega arith)
written_in_page (s ∷ ps) rest (suc q) r p changed x h e is =
    parts s (laid_pages (set ps q changed) rest)
    ∙ ap (λ l. map object_in (page_standings s) ++ l) (written_in_page ps rest q r p changed x h e is ∙ ap (λ n. set (map object_in (laid_pages ps rest)) n x) (omega arith))
    ∙ sym (set-append_right (map object_in (page_standings s)) (map object_in (laid_pages ps rest)) page_size (suc q * page_size + r) x (as_many s) (omega arith))
    ∙ ap (λ l. set l (suc q * page_size + r) x) (sym (parts s (laid_pages ps rest)))

pub written_in_last : (ps : List Page) (xs ys : List Standing) (i : ℕ) (x : Obj) → length ps * page_size ≤ i → map object_in ys ≡ set (map object_in xs) (i - length ps * page_size) x → map object_in (laid_pages ps ys) ≡ set (map object_in (laid_pages ps xs)) i x
written_in_last [] xs ys i x h is = is ∙ ap (λ n. set (map object_in xs) n x) (omega arith)
written_in_last (p ∷ ps) xs ys i x h is =
    parts p (laid_pages ps ys)
    ∙ ap (λ l. map object_in (page_standings p) ++ l) (written_in_last ps xs ys (i - page_size) x (omega (arith, h)) (is ∙ ap (λ n. set (map object_in xs) n x) (omega (arith, h))))
    ∙ sym (set-append_right (map object_in (page_standings p)) (map object_in (laid_pages ps xs)) page_size i x (as_many p) (omega (arith, h)))
    ∙ ap (λ l. set l i x) (sym (parts p (laid_pages ps xs)))

-- ---- a page that is given back, one page more, and objects at the end

pub same_page_there : (ps : List Page) (rest : List Standing) (q : ℕ) (p changed : Page) → slice_get ps q ≡ Some p → page_standings changed ≡ page_standings p → laid_pages (set ps q changed) rest ≡ laid_pages ps rest
same_page_there [] rest q p changed e is = refl
same_page_there (s ∷ ps) rest zero p changed e is = ap (λ l. l ++ laid_pages ps rest) (is ∙ ap (λ (t : Page). page_standings t) (sym (some_is e)))
same_page_there (s ∷ ps) rest (suc q) p changed e is = ap (λ l. page_standings s ++ l) (same_page_there ps rest q p changed e is)

pub one_page_more : (ps : List Page) (p : Page) (rest : List Standing) → laid_pages (ps ++ p ∷ []) rest ≡ laid_pages ps (page_standings p ++ rest)
one_page_more [] p rest = refl
one_page_more (s ∷ ps) p rest = ap (λ l. page_standings s ++ l) (one_page_more ps p rest)

pub more_at_the_end : (ps : List Page) (rest more : List Standing) → laid_pages ps (rest ++ more) ≡ laid_pages ps rest ++ more
more_at_the_end [] rest more = refl
more_at_the_end (p ∷ ps) rest more = ap (λ l. page_standings p ++ l) (more_at_the_end ps rest more) ∙ sym (append_assoc (page_standings p) (laid_pages ps rest) more)

-- ---- by a number among all

-- a number in full pages is in one of them
pub page_there : (ps : List Page) (first i : ℕ) → first ≡ length ps * page_size → i < first → i / page_size < length ps
page_there ps first i e h = let cut = div-add-mod' i page_size in omega (arith, cut, e, h)

pub standing_there : (ps : List Page) (rest : List Standing) (i : ℕ) (p : Page) → slice_get ps (i / page_size) ≡ Some p → slice_get (laid_pages ps rest) i ≡ slice_get (page_standings p) (i % page_size)
standing_there ps rest i p e =
    ap (slice_get (laid_pages ps rest)) (sym (div-add-mod' i page_size)) ∙ page_at ps rest (i / page_size) (i % page_size) p (mod-lt i (omega arith)) e

pub object_there : (ps : List Page) (rest : List Standing) (i : ℕ) (p : Page) → slice_get ps (i / page_size) ≡ Some p → slice_get (map object_in (laid_pages ps rest)) i ≡ slice_get (map object_in (page_standings p)) (i % page_size)
object_there ps rest i p e =
    slice_get-map object_in (laid_pages ps rest) i
    ∙ ap (option_map object_in) (standing_there ps rest i p e)
    ∙ sym (slice_get-map object_in (page_standings p) (i % page_size))

pub written_there : (ps : List Page) (rest : List Standing) (i : ℕ) (p changed : Page) (x : Obj) → slice_get ps (i / page_size) ≡ Some p → map object_in (page_standings changed) ≡ set (map object_in (page_standings p)) (i % page_size) x → map object_in (laid_pages (set ps (i / page_size) changed) rest) ≡ set (map object_in (laid_pages ps rest)) i x
written_there ps rest i p changed x e is =
    written_in_page ps rest (i / page_size) (i % page_size) p changed x (mod-lt i (omega arith)) e is ∙ ap (λ n. set (map object_in (laid_pages ps rest)) n x) (div-add-mod' i page_size)

-- the last objects
pub standing_last : (ps : List Page) (xs : List HeapObject) (first i : ℕ) → first ≡ length ps * page_size → first ≤ i → slice_get (laid_pages ps (map standing_of xs)) i ≡ slice_get (map standing_of xs) (i - first)
standing_last ps xs first i e h =
    last_at ps (map standing_of xs) i (omega (arith, e, h)) ∙ ap (λ n. slice_get (map standing_of xs) (i - n)) (sym e)

pub object_last : (ps : List Page) (xs : List HeapObject) (first i : ℕ) → first ≡ length ps * page_size → first ≤ i → slice_get (map object_in (laid_pages ps (map standing_of xs))) i ≡ option_map written_object (slice_get xs (i - first))
object_last ps xs first i e h =
    slice_get-map object_in (laid_pages ps (map standing_of xs)) i
    ∙ ap (option_map object_in) (standing_last ps xs first i e h)
    ∙ sym (slice_get-map object_in (map standing_of xs) (i - first))
    ∙ object_listed xs (i - first)

pub gone_last : (ps : List Page) (xs : List HeapObject) (first i : ℕ) → first ≡ length ps * page_size → first ≤ i → option_map is_gone (slice_get (laid_pages ps (map standing_of xs)) i) ≡ option_map has_gone (slice_get xs (i - first))
gone_last ps xs first i e h = ap (option_map is_gone) (standing_last ps xs first i e h) ∙ gone_listed xs (i - first)

pub same_last : (ps : List Page) (xs ys : List HeapObject) → map written_object ys ≡ map written_object xs → map object_in (laid_pages ps (map standing_of ys)) ≡ map object_in (laid_pages ps (map standing_of xs))
same_last ps xs ys is = same_in_last ps (map standing_of xs) (map standing_of ys) (map_written ys ∙ is ∙ sym (map_written xs))

pub written_last : (ps : List Page) (xs ys : List HeapObject) (first i : ℕ) (x : Obj) → first ≡ length ps * page_size → first ≤ i → map written_object ys ≡ set (map written_object xs) (i - first) x → map object_in (laid_pages ps (map standing_of ys)) ≡ set (map object_in (laid_pages ps (map standing_of xs))) i x
written_last ps xs ys first i x e h is =
    written_in_last ps (map standing_of xs) (map standing_of ys) i x (omega (arith, e, h))
    (map_written ys ∙ is ∙ ap (λ l. set l (i - first) x) (sym (map_written xs)) ∙ ap (λ n. set (map object_in (map standing_of xs)) (i - n) x) e)
