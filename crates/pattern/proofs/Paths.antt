-- Paths in directories, their segments and ancestors.
use Rattle.std.proofs.Common.{◌≡◌, ◌∙◌, ap, sym, refl, arith, ℕ, ◌+◌, Bool, true, false, cond, not, ◌&&◌, ◌||◌, ◌==◌, ◌⊎◌, inl, inr, List, [], ◌∷◌, ◌++◌, length, take, drop, Some, None, map as each, nat_eq, slice_index}
use Rattle.std.specs.Prelude.{nat_le, bytes_eq}
use Rattle.std.specs.List.{list_any, list_all, starts_with, onto_first, position_or_len, filter_map}
use Rattle.std.proofs.lemmas.Bool.{and_parts, and_from, eqb-true, eq-eqb, false≢true, not-true, ne_eqb}
use Rattle.std.proofs.lemmas.List.{append_assoc, length-append, take_at, drop_at}
use Rattle.labels.specs.Paths.{is_path, segments}
use Rattle.labels.specs.Labels.{ancestors}
use Rattle.filetree.specs.Files.{is_ancestor}
use Rattle.filetree.specs.Folders.{has_no_slash}
use Rattle.filetree.specs.Listings.{rest_below, first_name}
use Rattle.pattern.specs.Globs.{path_in, is_open}
use Rattle.pattern.proofs.Members.{In, in_filter_map, filter_map_in, in_all}

-- a path has no slash, or a first name and a rest
abbrev pub Cut : List ℕ → Type 0
Cut path = (has_no_slash path ≡ true) ⊎ ((name : List ℕ) × (rest : List ℕ) × (has_no_slash name ≡ true) × (path ≡ name ++ 47 ∷ rest))

cut_on : (b : ℕ) (path : List ℕ) (t : Bool) → (b == 47) ≡ t → Cut path → Cut (b ∷ path)
cut_on b path true h c = inr ([], path, refl, ap (λ x. x ∷ path) (eqb-true b 47 h))
cut_on b path false h (inl plain) = inl (and_from (not (b == 47)) (has_no_slash path) (ap not h) plain)
cut_on b path false h (inr (name, rest, plain, is)) = inr (b ∷ name, rest, and_from (not (b == 47)) (has_no_slash name) (ap not h) plain, ap (λ x. b ∷ x) is)

pub cut : (path : List ℕ) → Cut path
cut [] = inl refl
cut (b ∷ path) = cut_on b path (b == 47) refl (cut path)

ancestor_from : (path other : List ℕ) → is_ancestor path other ≡ true → (rest : List ℕ) × (other ≡ path ++ 47 ∷ rest)
ancestor_from [] [] h = absurd (false≢true h)
ancestor_from [] (b ∷ other) h = (other, ap (λ x. x ∷ other) (eqb-true b 47 h))
ancestor_from (a ∷ path) [] h = absurd (false≢true h)
ancestor_from (a ∷ path) (b ∷ other) h =
    let both = and_parts (starts_with nat_eq (b ∷ other) (a ∷ path)) (slice_index (b ∷ other) (length (a ∷ path)) == 47) h in
    let front = and_parts (a == b) (starts_with nat_eq other path) both.0 in
    let inner = ancestor_from path other (and_from (starts_with nat_eq other path) (slice_index other (length path) == 47) front.1 both.1) in
    (inner.0, ap (λ x. b ∷ x) inner.1 ∙ ap (λ x. x ∷ path ++ 47 ∷ inner.0) (sym (eqb-true a b front.0)))

ancestor_of : (path rest : List ℕ) → is_ancestor path (path ++ 47 ∷ rest) ≡ true
ancestor_of [] rest = refl
ancestor_of (a ∷ path) rest =
    let inner = and_parts (starts_with nat_eq (path ++ 47 ∷ rest) path) (slice_index (path ++ 47 ∷ rest) (length path) == 47) (ancestor_of path rest) in
    and_from (starts_with nat_eq (a ∷ path ++ 47 ∷ rest) (a ∷ path)) (slice_index (a ∷ path ++ 47 ∷ rest) (length (a ∷ path)) == 47)
    (and_from (a == a) (starts_with nat_eq (path ++ 47 ∷ rest) path) (eq-eqb a a refl) inner.0) inner.1

drop_behind : (front rest : List ℕ) → drop (length front + 1) (front ++ 47 ∷ rest) ≡ rest
drop_behind front rest = ap (drop (length front + 1)) (sym (append_assoc front (47 ∷ []) rest)) ∙ drop_at (front ++ 47 ∷ []) rest (length front + 1) (length-append front (47 ∷ []))

-- the rest of a path in a directory
pub rest_in : (directory q : List ℕ) → rest_below directory (path_in directory q) ≡ Some q
rest_in [] q = refl
rest_in (d ∷ ds) q =
    ap (λ b. cond b (Some (drop (length (d ∷ ds) + 1) ((d ∷ ds) ++ 47 ∷ q))) None) (ancestor_of (d ∷ ds) q) ∙ ap Some (drop_behind (d ∷ ds) q)

pub rest_path : (directory path q : List ℕ) → rest_below directory path ≡ Some q → path ≡ path_in directory q
rest_path [] path q h = cc
rest_path (d ∷ ds) path q h =
    elim (is_ancestor (d ∷ ds) path) as (λ b. is_ancestor (d ∷ ds) path ≡ b → cond b (Some (drop (length (d ∷ ds) + 1) path)) None ≡ Some q → path ≡ (d ∷ ds) ++ 47 ∷ q) [
      | true ↦ λ e g.
          let on = ancestor_from (d ∷ ds) path e in
          let left : drop (length (d ∷ ds) + 1) path ≡ q = cc in
          on.1 ∙ ap (λ r. (d ∷ ds) ++ 47 ∷ r) (sym (drop_behind (d ∷ ds) on.0) ∙ ap (drop (length (d ∷ ds) + 1)) (sym on.1) ∙ left)
      | false ↦ λ e g. cc
    ] refl h

pub rests_to : (directory q : List ℕ) (paths : List (List ℕ)) → In q (filter_map (rest_below directory) paths) → In (path_in directory q) paths
rests_to directory q paths h =
    let one = in_filter_map (rest_below directory) q paths h in
    ap (λ p. list_any (λ x. bytes_eq p x) paths) (sym (rest_path directory one.0 q one.2)) ∙ one.1

pub rests_from : (directory q : List ℕ) (paths : List (List ℕ)) → In (path_in directory q) paths → In q (filter_map (rest_below directory) paths)
rests_from directory q paths h = filter_map_in (rest_below directory) (path_in directory q) q paths h (rest_in directory q)

-- a directory in a directory
abbrev pub HasName : List ℕ → List ℕ → Type 0
HasName [] name = (length name == 0) ≡ false
HasName (d ∷ ds) name = Unit {0}

pub path_deep : (directory name q : List ℕ) → HasName directory name → path_in (path_in directory name) q ≡ path_in directory (name ++ 47 ∷ q)
path_deep [] [] q h = cc
path_deep [] (b ∷ name) q h = refl
path_deep (d ∷ ds) name q h = append_assoc (d ∷ ds) (47 ∷ name) (47 ∷ q)

and_never : (a : Bool) → a && false ≡ false
and_never true = refl
and_never false = refl

pub has_name : (directory name q : List ℕ) (paths : List (List ℕ)) → list_all is_path paths ≡ true → In (path_in directory (name ++ 47 ∷ q)) paths → HasName directory name
has_name [] [] q paths all h = absurd (false≢true (sym (and_never (nat_le (length (47 ∷ q)) 255)) ∙ in_all is_path (47 ∷ q) paths h all))
has_name [] (b ∷ name) q paths all h = ne_eqb (length (b ∷ name)) 0 (λ e. omega (arith, e))
has_name (d ∷ ds) name q paths all h = tt

-- segments and ancestors
pub one_segment : (name : List ℕ) → has_no_slash name ≡ true → segments name ≡ name ∷ []
one_segment [] h = refl
one_segment (b ∷ name) h =
    let both = and_parts (not (b == 47)) (has_no_slash name) h in
    ap (λ e. cond e ([] ∷ segments name) (onto_first b (segments name))) (not-true (b == 47) both.0) ∙ ap (onto_first b) (one_segment name both.1)

pub more_segments : (name rest : List ℕ) → has_no_slash name ≡ true → segments (name ++ 47 ∷ rest) ≡ name ∷ segments rest
more_segments [] rest h = refl
more_segments (b ∷ name) rest h =
    let both = and_parts (not (b == 47)) (has_no_slash name) h in
    ap (λ e. cond e ([] ∷ segments (name ++ 47 ∷ rest)) (onto_first b (segments (name ++ 47 ∷ rest)))) (not-true (b == 47) both.0) ∙ ap (onto_first b) (more_segments name rest both.1)

pub some_segment : (text : List ℕ) → (first : List ℕ) × (rest : List (List ℕ)) × (segments text ≡ first ∷ rest)
some_segment [] = ([], [], refl)
some_segment (b ∷ text) =
    let rest = some_segment text in
    elim (b == 47) as (λ e. (first : List ℕ) × (more : List (List ℕ)) × (cond e ([] ∷ segments text) (onto_first b (segments text)) ≡ first ∷ more)) [
      | true ↦ ([], segments text, refl)
      | false ↦ (b ∷ rest.0, rest.1, ap (onto_first b) rest.2)
    ]

no_ancestors : (name : List ℕ) → has_no_slash name ≡ true → ancestors name ≡ []
no_ancestors [] h = refl
no_ancestors (b ∷ name) h =
    let both = and_parts (not (b == 47)) (has_no_slash name) h in
    ap (λ e. cond e ([] ∷ each (λ d. b ∷ d) (ancestors name)) (each (λ d. b ∷ d) (ancestors name))) (not-true (b == 47) both.0) ∙ ap (each (λ d. b ∷ d)) (no_ancestors name both.1)

each_each : (f g : List ℕ → List ℕ) (xs : List (List ℕ)) → each f (each g xs) ≡ each (λ x. f (g x)) xs
each_each f g [] = refl
each_each f g (x ∷ xs) = ap (λ r. f (g x) ∷ r) (each_each f g xs)

more_ancestors : (name rest : List ℕ) → has_no_slash name ≡ true → ancestors (name ++ 47 ∷ rest) ≡ name ∷ each (λ d. name ++ 47 ∷ d) (ancestors rest)
more_ancestors [] rest h = refl
more_ancestors (b ∷ name) rest h =
    let both = and_parts (not (b == 47)) (has_no_slash name) h in
    ap (λ e. cond e ([] ∷ each (λ d. b ∷ d) (ancestors (name ++ 47 ∷ rest))) (each (λ d. b ∷ d) (ancestors (name ++ 47 ∷ rest)))) (not-true (b == 47) both.0)
    ∙ ap (each (λ d. b ∷ d)) (more_ancestors name rest both.1) ∙ ap (λ r. (b ∷ name) ∷ r) (each_each (λ d. b ∷ d) (λ d. name ++ 47 ∷ d) (ancestors rest))

any_each : (f : List ℕ → List ℕ) (p : List ℕ → Bool) (xs : List (List ℕ)) → list_any p (each f xs) ≡ list_any (λ x. p (f x)) xs
any_each f p [] = refl
any_each f p (x ∷ xs) = ap (λ b. p (f x) || b) (any_each f p xs)

-- no package is before a file of the directory
pub open_name : (packages : List ℕ → Bool) (directory name : List ℕ) → has_no_slash name ≡ true → is_open packages directory name ≡ true
open_name packages directory name h = ap (λ a. not (list_any (λ d. packages (path_in directory d)) a)) (no_ancestors name h)

not_or : (a b : Bool) → not (a || b) ≡ not a && not b
not_or true b = refl
not_or false b = refl

pub open_deep : (packages : List ℕ → Bool) (directory name rest : List ℕ) → has_no_slash name ≡ true → HasName directory name
    → is_open packages directory (name ++ 47 ∷ rest) ≡ not (packages (path_in directory name)) && is_open packages (path_in directory name) rest
open_deep packages directory name rest h has =
    let same : (λ (d : List ℕ). packages (path_in directory (name ++ 47 ∷ d))) ≡ (λ (d : List ℕ). packages (path_in (path_in directory name) d)) = λ i d. ap packages (sym (path_deep directory name d has)) i in
    ap (λ a. not (list_any (λ d. packages (path_in directory d)) a)) (more_ancestors name rest h)
    ∙ ap (λ b. not (packages (path_in directory name) || b)) (any_each (λ d. name ++ 47 ∷ d) (λ d. packages (path_in directory d)) (ancestors rest) ∙ ap (λ t. list_any t (ancestors rest)) same)
    ∙ not_or (packages (path_in directory name)) (list_any (λ d. packages (path_in (path_in directory name) d)) (ancestors rest))

-- first names
slash_in : (name rest : List ℕ) → has_no_slash (name ++ 47 ∷ rest) ≡ false
slash_in [] rest = refl
slash_in (b ∷ name) rest = ap (λ x. not (b == 47) && x) (slash_in name rest) ∙ and_never (not (b == 47))

pub is_deep : (name rest : List ℕ) → not (has_no_slash (name ++ 47 ∷ rest)) ≡ true
is_deep name rest = ap not (slash_in name rest)

slash_at : (name rest : List ℕ) → has_no_slash name ≡ true → position_or_len (λ b. b == 47) (name ++ 47 ∷ rest) ≡ length name
slash_at [] rest h = refl
slash_at (b ∷ name) rest h =
    let both = and_parts (not (b == 47)) (has_no_slash name) h in
    ap (λ e. cond e (1 + position_or_len (λ b. b == 47) (name ++ 47 ∷ rest)) 0) both.0 ∙ ap (λ n. 1 + n) (slash_at name rest both.1) ∙ omega arith

pub first_of : (name rest : List ℕ) → has_no_slash name ≡ true → first_name (name ++ 47 ∷ rest) ≡ name
first_of name rest plain = ap (λ n. take n (name ++ 47 ∷ rest)) (slash_at name rest plain) ∙ take_at name (47 ∷ rest) (length name) refl
