-- The texts of a folder, by its own names and those of the folders in it.
use Rattle.std.proofs.Common.{◌≡◌, ◌∙◌, ap, sym, refl, arith, ℕ, ◌<◌, Bool, true, false, cond, not, ◌&&◌, List, [], ◌∷◌, ◌++◌, length, Option, Some, None, inl, inr}
use Rattle.std.specs.Prelude.{option_and_then, flat_map, bytes_eq, nat_lt}
use Rattle.std.specs.Option.{option_or}
use Rattle.std.specs.Map.{lookup}
use Rattle.std.specs.List.{list_all}
use Rattle.std.proofs.lemmas.Bool.{and_parts, not-true}
use Rattle.filetree.specs.Folders.{Entries, Below, behind, level, has_no_slash, is_distinct, is_inner, is_sound, text_at}
use Rattle.filetree.proofs.Slashes.{same_bytes, plain_apart, plain_apart_back, both_parts, Cut, cut}
use Rattle.filetree.proofs.Sound.{parts_of}

or_after : {X : Type 0} (b : Bool) (x : X) (o p : Option X) → cond b (Some x) (option_or o p) ≡ option_or (cond b (Some x) o) p
or_after true x o p = refl
or_after false x o p = refl

or_none : {X : Type 0} (o : Option X) → option_or o None ≡ o
or_none None = refl
or_none (Some x) = refl

lookup-append : {K X : Type 0} (test : K → Bool) (xs ys : List (K × X)) → lookup test (xs ++ ys) ≡ option_or (lookup test xs) (lookup test ys)
lookup-append test [] ys = refl
lookup-append test (x ∷ xs) ys = ap (cond (test x.0) (Some x.1)) (lookup-append test xs ys) ∙ or_after (test x.0) x.1 (lookup test xs) (lookup test ys)

-- a name is not a path after a name
behind_plain : (plain name : List ℕ) (es : Entries) → has_no_slash plain ≡ true → text_at (behind name es) plain ≡ None
behind_plain plain name [] h = refl
behind_plain plain name (e ∷ es) h =
    ap (λ b. cond b (Some e.1) (text_at (behind name es) plain)) (plain_apart plain name e.0 h) ∙ behind_plain plain name es h

folders_plain : (plain : List ℕ) (ds : List (List ℕ × Below)) → has_no_slash plain ≡ true → text_at (flat_map (λ e. behind e.0 e.1.entries) ds) plain ≡ None
folders_plain plain [] h = refl
folders_plain plain (d ∷ ds) h =
    lookup-append (bytes_eq plain) (behind d.0 d.1.entries) (flat_map (λ e. behind e.0 e.1.entries) ds)
    ∙ ap (λ o. option_or o (text_at (flat_map (λ e. behind e.0 e.1.entries) ds) plain)) (behind_plain plain d.0 d.1.entries h) ∙ folders_plain plain ds h

pub at_name : (fs : Entries) (ds : List (List ℕ × Below)) (plain : List ℕ) → has_no_slash plain ≡ true → text_at (level fs ds) plain ≡ text_at fs plain
at_name fs ds plain h =
    lookup-append (bytes_eq plain) fs (flat_map (λ e. behind e.0 e.1.entries) ds) ∙ ap (option_or (text_at fs plain)) (folders_plain plain ds h) ∙ or_none (text_at fs plain)

-- a path after a name is not a name of a file
files_deep : (name rest : List ℕ) (fs : Entries) → list_all (λ e. has_no_slash e.0) fs ≡ true → text_at fs (name ++ 47 ∷ rest) ≡ None
files_deep name rest [] h = refl
files_deep name rest (f ∷ fs) h =
    let both = and_parts (has_no_slash f.0) (list_all (λ e. has_no_slash e.0) fs) h in
    ap (λ b. cond b (Some f.1) (text_at fs (name ++ 47 ∷ rest))) (plain_apart_back name rest f.0 both.0) ∙ files_deep name rest fs both.1

either : {X : Type 0} (b : Bool) (n : Option X) → n ≡ cond b n n
either true n = refl
either false n = refl

behind_deep : (name rest k : List ℕ) (es : Entries) → has_no_slash name ≡ true → has_no_slash k ≡ true
    → text_at (behind k es) (name ++ 47 ∷ rest) ≡ cond (bytes_eq name k) (text_at es rest) None
behind_deep name rest k [] hn hk = either (bytes_eq name k) (text_at [] rest)
behind_deep name rest k (e ∷ es) hn hk =
    ap (λ b. cond b (Some e.1) (text_at (behind k es) (name ++ 47 ∷ rest))) (both_parts name rest k e.0 hn hk)
    ∙ ap (cond (bytes_eq name k && bytes_eq rest e.0) (Some e.1)) (behind_deep name rest k es hn hk)
    ∙ elim (bytes_eq name k) as (λ b. cond (b && bytes_eq rest e.0) (Some e.1) (cond b (text_at es rest) None) ≡ cond b (cond (bytes_eq rest e.0) (Some e.1) (text_at es rest)) None) [ true ↦ refl | false ↦ refl ]

absent_deep : (name rest : List ℕ) (ds : List (List ℕ × Below)) → has_no_slash name ≡ true → list_all is_inner ds ≡ true → list_all (λ f. not (bytes_eq name f.0)) ds ≡ true
    → text_at (flat_map (λ e. behind e.0 e.1.entries) ds) (name ++ 47 ∷ rest) ≡ None
absent_deep name rest [] hn good apart = refl
absent_deep name rest (d ∷ ds) hn good apart =
    let goods = and_parts (is_inner d) (list_all is_inner ds) good in
    let aparts = and_parts (not (bytes_eq name d.0)) (list_all (λ f. not (bytes_eq name f.0)) ds) apart in
    let plain = (and_parts (has_no_slash d.0) (nat_lt 0 (length d.1.entries)) goods.0).0 in
    let here : text_at (behind d.0 d.1.entries) (name ++ 47 ∷ rest) ≡ None =
    behind_deep name rest d.0 d.1.entries hn plain ∙ ap (λ b. cond b (text_at d.1.entries rest) None) (not-true (bytes_eq name d.0) aparts.0) in
    lookup-append (bytes_eq (name ++ 47 ∷ rest)) (behind d.0 d.1.entries) (flat_map (λ e. behind e.0 e.1.entries) ds)
    ∙ ap (λ o. option_or o (text_at (flat_map (λ e. behind e.0 e.1.entries) ds) (name ++ 47 ∷ rest))) here ∙ absent_deep name rest ds hn goods.1 aparts.1

folders_deep : (name rest : List ℕ) (ds : List (List ℕ × Below)) → has_no_slash name ≡ true → list_all is_inner ds ≡ true → is_distinct ds ≡ true
    → text_at (flat_map (λ e. behind e.0 e.1.entries) ds) (name ++ 47 ∷ rest) ≡ option_and_then (λ b. text_at b.entries rest) (lookup (bytes_eq name) ds)
folders_deep name rest [] hn good apart = refl
folders_deep name rest (d ∷ ds) hn good apart =
    let goods = and_parts (is_inner d) (list_all is_inner ds) good in
    let aparts = and_parts (list_all (λ f. not (bytes_eq d.0 f.0)) ds) (is_distinct ds) apart in
    let plain = (and_parts (has_no_slash d.0) (nat_lt 0 (length d.1.entries)) goods.0).0 in
    let rest_of = text_at (flat_map (λ e. behind e.0 e.1.entries) ds) (name ++ 47 ∷ rest) in
    lookup-append (bytes_eq (name ++ 47 ∷ rest)) (behind d.0 d.1.entries) (flat_map (λ e. behind e.0 e.1.entries) ds)
    ∙ ap (λ o. option_or o (text_at (flat_map (λ e. behind e.0 e.1.entries) ds) (name ++ 47 ∷ rest))) (behind_deep name rest d.0 d.1.entries hn plain)
    ∙ elim (bytes_eq name d.0) as (λ b. bytes_eq name d.0 ≡ b → option_or (cond b (text_at d.1.entries rest) None) (text_at (flat_map (λ e. behind e.0 e.1.entries) ds) (name ++ 47 ∷ rest))
    ≡ option_and_then (λ b. text_at b.entries rest) (cond b (Some d.1) (lookup (bytes_eq name) ds))) [
      | true ↦ λ h. ap (option_or (text_at d.1.entries rest))
          (absent_deep name rest ds hn goods.1 (ap (λ n. list_all (λ f. not (bytes_eq n f.0)) ds) (same_bytes name d.0 h) ∙ aparts.0)) ∙ or_none (text_at d.1.entries rest)
      | false ↦ λ h. folders_deep name rest ds hn goods.1 aparts.1
    ] refl

pub below_name : (fs : Entries) (ds : List (List ℕ × Below)) (name rest : List ℕ) → is_sound fs ds ≡ true → has_no_slash name ≡ true
    → text_at (level fs ds) (name ++ 47 ∷ rest) ≡ option_and_then (λ b. text_at b.entries rest) (lookup (bytes_eq name) ds)
below_name fs ds name rest sound plain =
    let parts = parts_of fs ds sound in
    lookup-append (bytes_eq (name ++ 47 ∷ rest)) fs (flat_map (λ e. behind e.0 e.1.entries) ds)
    ∙ ap (λ o. option_or o (text_at (flat_map (λ e. behind e.0 e.1.entries) ds) (name ++ 47 ∷ rest))) (files_deep name rest fs parts.0)
    ∙ folders_deep name rest ds plain parts.1 parts.2

-- a change of one file of the folder itself
file_changed_at : (fs gs : Entries) (ds : List (List ℕ × Below)) (name : List ℕ) (w : Option (List ℕ)) → is_sound fs ds ≡ true → is_sound gs ds ≡ true → has_no_slash name ≡ true
    → ((q : List ℕ) → text_at gs q ≡ cond (bytes_eq name q) w (text_at fs q)) → (q : List ℕ) → Cut q → text_at (level gs ds) q ≡ cond (bytes_eq name q) w (text_at (level fs ds) q)
file_changed_at fs gs ds name w old new plain set q (inl pq) = at_name gs ds q pq ∙ set q ∙ ap (cond (bytes_eq name q) w) (sym (at_name fs ds q pq))
file_changed_at fs gs ds name w old new plain set q (inr (n, r, pn, is)) =
    ap (text_at (level gs ds)) is ∙ below_name gs ds n r new pn ∙ sym (below_name fs ds n r old pn)
    ∙ ap (λ b. cond b w (text_at (level fs ds) (n ++ 47 ∷ r))) (sym (plain_apart name n r plain))
    ∙ ap (λ x. cond (bytes_eq name x) w (text_at (level fs ds) x)) (sym is)

pub file_changed : (fs gs : Entries) (ds : List (List ℕ × Below)) (name : List ℕ) (w : Option (List ℕ)) → is_sound fs ds ≡ true → is_sound gs ds ≡ true → has_no_slash name ≡ true
    → ((q : List ℕ) → text_at gs q ≡ cond (bytes_eq name q) w (text_at fs q)) → (q : List ℕ) → text_at (level gs ds) q ≡ cond (bytes_eq name q) w (text_at (level fs ds) q)
file_changed fs gs ds name w old new plain set q = file_changed_at fs gs ds name w old new plain set q (cut q)

-- a change at one path of one folder in it
folder_changed_at : (fs : Entries) (ds es : List (List ℕ × Below)) (name rest : List ℕ) (w : Option (List ℕ)) (i : Option Below) → is_sound fs ds ≡ true → is_sound fs es ≡ true → has_no_slash name ≡ true
    → ((q : List ℕ) → lookup (bytes_eq q) es ≡ cond (bytes_eq name q) i (lookup (bytes_eq q) ds))
    → ((r : List ℕ) → option_and_then (λ b. text_at b.entries r) i ≡ cond (bytes_eq rest r) w (option_and_then (λ b. text_at b.entries r) (lookup (bytes_eq name) ds)))
    → (q : List ℕ) → Cut q → text_at (level fs es) q ≡ cond (bytes_eq (name ++ 47 ∷ rest) q) w (text_at (level fs ds) q)
folder_changed_at fs ds es name rest w i old new plain set inner q (inl pq) =
    at_name fs es q pq ∙ sym (at_name fs ds q pq) ∙ ap (λ b. cond b w (text_at (level fs ds) q)) (sym (plain_apart_back name rest q pq))
folder_changed_at fs ds es name rest w i old new plain set inner q (inr (n, r, pn, is)) =
    ap (text_at (level fs es)) is ∙ below_name fs es n r new pn ∙ ap (option_and_then (λ b. text_at b.entries r)) (set n)
    ∙ elim (bytes_eq name n) as (λ b. bytes_eq name n ≡ b → option_and_then (λ b. text_at b.entries r) (cond b i (lookup (bytes_eq n) ds))
    ≡ cond (b && bytes_eq rest r) w (option_and_then (λ b. text_at b.entries r) (lookup (bytes_eq n) ds))) [
      | true ↦ λ h. inner r ∙ ap (λ m. cond (bytes_eq rest r) w (option_and_then (λ b. text_at b.entries r) (lookup (bytes_eq m) ds))) (same_bytes name n h)
      | false ↦ λ h. refl
    ] refl
    ∙ ap (cond (bytes_eq name n && bytes_eq rest r) w) (sym (below_name fs ds n r old pn))
    ∙ ap (λ b. cond b w (text_at (level fs ds) (n ++ 47 ∷ r))) (sym (both_parts name rest n r plain pn))
    ∙ ap (λ x. cond (bytes_eq (name ++ 47 ∷ rest) x) w (text_at (level fs ds) x)) (sym is)

pub folder_changed : (fs : Entries) (ds es : List (List ℕ × Below)) (name rest : List ℕ) (w : Option (List ℕ)) (i : Option Below) → is_sound fs ds ≡ true → is_sound fs es ≡ true → has_no_slash name ≡ true
    → ((q : List ℕ) → lookup (bytes_eq q) es ≡ cond (bytes_eq name q) i (lookup (bytes_eq q) ds))
    → ((r : List ℕ) → option_and_then (λ b. text_at b.entries r) i ≡ cond (bytes_eq rest r) w (option_and_then (λ b. text_at b.entries r) (lookup (bytes_eq name) ds)))
    → (q : List ℕ) → text_at (level fs es) q ≡ cond (bytes_eq (name ++ 47 ∷ rest) q) w (text_at (level fs ds) q)
folder_changed fs ds es name rest w i old new plain set inner q = folder_changed_at fs ds es name rest w i old new plain set inner q (cut q)

pub some_entry : (es : Entries) (q t : List ℕ) → text_at es q ≡ Some t → 0 < length es
some_entry [] q t h = cc
some_entry (e ∷ es) q t h = omega arith
