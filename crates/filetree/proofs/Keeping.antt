-- A folder after a change of one of its names.
use Rattle.std.proofs.Common.{◌≡◌, ◌∙◌, ap, sym, refl, arith, ℕ, ◌<◌, Bool, true, false, cond, not, ◌==◌, List, [], ◌∷◌, ◌++◌, length, get_or, set, Option, Some, None, nat_lt, map as each, String, Global}
use Rattle.std.specs.declared.sync.Arc.{Arc}
use Rattle.std.specs.Prelude.{bytes_eq, option_and_then, option_map, string_bytes}
use Rattle.std.specs.BTreeMap.{insert_entry, is_at}
use Rattle.std.specs.Map.{lookup, remove_entry, set_value}
use Rattle.std.specs.Ordering.{nat_cmp}
use Rattle.std.specs.Cmp.Lexicographic.{slice_cmp}
use Rattle.std.specs.Bool.{MatchBool}
use Rattle.std.proofs.lemmas.Bool.{and_from, lt-ltb, false≢true}
use Rattle.filetree.specs.NameMaps.{listed, name_value, is_ascending}
use Rattle.filetree.specs.Folders.{Entries, Below, level, has_no_slash, is_inner, is_sound, text_at, Rewrites, IsPut}
use Rattle.filetree.specs.Removals.{has_files, LosesFolder, LosesFile, LosesOneFile}
use Rattle.filetree.proofs.Order.{all_inserted, all_removed, ascending_inserted, ascending_removed, ascending_set, lookup_inserted, ascending_distinct, lookup_removed, lookup_set}
use Rattle.filetree.proofs.NameMaps.{IsAt, listed_found, listed_set, mapped_lookup, mapped_set}
use Rattle.filetree.proofs.Sound.{parts_of, sound_from, inner_some}
use Rattle.filetree.proofs.Levels.{file_changed, folder_changed}
use Rattle.filetree.proofs.InPlace.{inner_set, same_set, still_some, removed_set, no_text}

-- a file is put, and one is taken away

pub file_put_sound : (fs : Entries) (ds : List (List ℕ × Below)) (name t : List ℕ) → is_sound fs ds ≡ true → has_no_slash name ≡ true → is_sound (insert_entry (slice_cmp nat_cmp) fs name t) ds ≡ true
file_put_sound fs ds name t sound plain =
    let parts = parts_of fs ds sound in
    sound_from (insert_entry (slice_cmp nat_cmp) fs name t) ds (all_inserted (λ e. has_no_slash e.0) fs name t plain parts.0) parts.1 (ascending_inserted fs name t parts.3) parts.4

pub file_put : (fs : Entries) (ds : List (List ℕ × Below)) (name t : List ℕ) → is_sound fs ds ≡ true → has_no_slash name ≡ true
    → (q : List ℕ) → text_at (level (insert_entry (slice_cmp nat_cmp) fs name t) ds) q ≡ cond (bytes_eq name q) (Some t) (text_at (level fs ds) q)
file_put fs ds name t sound plain q =
    file_changed fs (insert_entry (slice_cmp nat_cmp) fs name t) ds name (Some t) sound (file_put_sound fs ds name t sound plain) plain (lookup_inserted fs name t) q

pub file_removed_sound : (fs : Entries) (ds : List (List ℕ × Below)) (name : List ℕ) → is_sound fs ds ≡ true → is_sound (remove_entry (bytes_eq name) fs) ds ≡ true
file_removed_sound fs ds name sound =
    let parts = parts_of fs ds sound in
    sound_from (remove_entry (bytes_eq name) fs) ds (all_removed (λ e. has_no_slash e.0) (bytes_eq name) fs parts.0) parts.1 (ascending_removed (bytes_eq name) fs parts.3) parts.4

pub file_removed : (fs : Entries) (ds : List (List ℕ × Below)) (name : List ℕ) → is_sound fs ds ≡ true → has_no_slash name ≡ true
    → (q : List ℕ) → text_at (level (remove_entry (bytes_eq name) fs) ds) q ≡ cond (bytes_eq name q) None (text_at (level fs ds) q)
file_removed fs ds name sound plain q =
    file_changed fs (remove_entry (bytes_eq name) fs) ds name None sound (file_removed_sound fs ds name sound) plain
    (λ p. lookup_removed fs name p (ascending_distinct fs (parts_of fs ds sound).3)) q

-- a folder is put, and one is taken away

pub folder_put_sound : (fs : Entries) (ds : List (List ℕ × Below)) (name : List ℕ) (b : Below) → is_sound fs ds ≡ true → has_no_slash name ≡ true → 0 < length b.entries
    → is_sound fs (insert_entry (slice_cmp nat_cmp) ds name b) ≡ true
folder_put_sound fs ds name b sound plain some =
    let parts = parts_of fs ds sound in
    sound_from fs (insert_entry (slice_cmp nat_cmp) ds name b) parts.0
    (all_inserted is_inner ds name b (and_from (has_no_slash name) (nat_lt 0 (length b.entries)) plain (lt-ltb 0 (length b.entries) some)) parts.1) parts.3 (ascending_inserted ds name b parts.4)

pub folder_put : (fs : Entries) (ds : List (List ℕ × Below)) (name rest : List ℕ) (w : Option (List ℕ)) (b : Below) → is_sound fs ds ≡ true → has_no_slash name ≡ true → 0 < length b.entries
    → ((r : List ℕ) → text_at b.entries r ≡ cond (bytes_eq rest r) w (option_and_then (λ b. text_at b.entries r) (lookup (bytes_eq name) ds)))
    → (q : List ℕ) → text_at (level fs (insert_entry (slice_cmp nat_cmp) ds name b)) q ≡ cond (bytes_eq (name ++ 47 ∷ rest) q) w (text_at (level fs ds) q)
folder_put fs ds name rest w b sound plain some inner q =
    folder_changed fs ds (insert_entry (slice_cmp nat_cmp) ds name b) name rest w (Some b) sound (folder_put_sound fs ds name b sound plain some) plain (lookup_inserted ds name b) inner q

pub folder_removed_sound : (fs : Entries) (ds : List (List ℕ × Below)) (name : List ℕ) → is_sound fs ds ≡ true → is_sound fs (remove_entry (bytes_eq name) ds) ≡ true
folder_removed_sound fs ds name sound =
    let parts = parts_of fs ds sound in
    sound_from fs (remove_entry (bytes_eq name) ds) parts.0 (all_removed is_inner (bytes_eq name) ds parts.1) parts.3 (ascending_removed (bytes_eq name) ds parts.4)

pub folder_removed : (fs : Entries) (ds : List (List ℕ × Below)) (name rest : List ℕ) → is_sound fs ds ≡ true → has_no_slash name ≡ true
    → ((r : List ℕ) → None ≡ cond (bytes_eq rest r) None (option_and_then (λ b. text_at b.entries r) (lookup (bytes_eq name) ds)))
    → (q : List ℕ) → text_at (level fs (remove_entry (bytes_eq name) ds)) q ≡ cond (bytes_eq (name ++ 47 ∷ rest) q) None (text_at (level fs ds) q)
folder_removed fs ds name rest sound plain inner q =
    folder_changed fs ds (remove_entry (bytes_eq name) ds) name rest None None sound (folder_removed_sound fs ds name sound) plain (λ p. lookup_removed ds name p (parts_of fs ds sound).2) inner q

-- a folder is written in place

pub rewritten_sound : (fs : Entries) (ds es : List (List ℕ × Below)) (name rest t : List ℕ) → is_sound fs ds ≡ true → Rewrites name (IsPut rest t) ds es → is_sound fs es ≡ true
rewritten_sound fs ds es name rest t sound h =
    let parts = parts_of fs ds sound in
    ap (is_sound fs) h.is ∙ sound_from fs (set_value (bytes_eq name) ds h.after) parts.0
    (inner_set (bytes_eq name) ds h.after parts.1 (still_some h.before.entries h.after.entries rest t h.changed)) parts.3 (ascending_set (bytes_eq name) ds h.after ∙ parts.4)

pub rewritten : (fs : Entries) (ds es : List (List ℕ × Below)) (name rest t : List ℕ) → is_sound fs ds ≡ true → has_no_slash name ≡ true → Rewrites name (IsPut rest t) ds es
    → (q : List ℕ) → text_at (level fs es) q ≡ cond (bytes_eq (name ++ 47 ∷ rest) q) (Some t) (text_at (level fs ds) q)
rewritten fs ds es name rest t sound plain h q =
    folder_changed fs ds es name rest (Some t) (Some h.after) sound (rewritten_sound fs ds es name rest t sound h) plain
    (λ p. ap (lookup (bytes_eq p)) h.is ∙ lookup_set ds name h.before h.after p h.found)
    (λ r. h.changed r ∙ ap (λ o. cond (bytes_eq rest r) (Some t) (option_and_then (λ b. text_at b.entries r) o)) (sym h.found)) q

pub unwritten_sound : (fs : Entries) (ds es : List (List ℕ × Below)) (name : List ℕ) → is_sound fs ds ≡ true → Rewrites name (λ before after. after.entries ≡ before.entries) ds es → is_sound fs es ≡ true
unwritten_sound fs ds es name sound h =
    let parts = parts_of fs ds sound in
    let some : 0 < length h.before.entries = inner_some ds name h.before parts.1 h.found in
    let size : length h.after.entries ≡ length h.before.entries = ap length h.changed in
    ap (is_sound fs) h.is ∙ sound_from fs (set_value (bytes_eq name) ds h.after) parts.0
    (inner_set (bytes_eq name) ds h.after parts.1 (omega (arith, some, size))) parts.3 (ascending_set (bytes_eq name) ds h.after ∙ parts.4)

pub unwritten : (fs : Entries) (ds es : List (List ℕ × Below)) (name : List ℕ) → Rewrites name (λ before after. after.entries ≡ before.entries) ds es → level fs es ≡ level fs ds
unwritten fs ds es name h =
    ap (level fs) h.is ∙ ap (λ x. fs ++ x) (same_set (bytes_eq name) ds h.before h.after h.found h.changed)

-- a file of a folder is taken away in place, and then the folder where it has none left

some_left : (es : Entries) → not (length es == 0) ≡ true → 0 < length es
some_left [] some = absurd (false≢true some)
some_left (e ∷ es) some = omega arith

files_left : (b : Below) → has_files b ≡ true → 0 < length b.entries
files_left b some = some_left b.entries some

pub kept_sound : (fs : Entries) (ds es : List (List ℕ × Below)) (name rest : List ℕ) → is_sound fs ds ≡ true → Rewrites name (LosesOneFile rest) ds es → is_sound fs es ≡ true
kept_sound fs ds es name rest sound h =
    let parts = parts_of fs ds sound in
    ap (is_sound fs) h.is ∙ sound_from fs (set_value (bytes_eq name) ds h.after) parts.0
    (inner_set (bytes_eq name) ds h.after parts.1 (files_left h.after h.changed.0)) parts.3 (ascending_set (bytes_eq name) ds h.after ∙ parts.4)

pub kept : (fs : Entries) (ds es : List (List ℕ × Below)) (name rest : List ℕ) → is_sound fs ds ≡ true → has_no_slash name ≡ true → Rewrites name (LosesOneFile rest) ds es
    → (q : List ℕ) → text_at (level fs es) q ≡ cond (bytes_eq (name ++ 47 ∷ rest) q) None (text_at (level fs ds) q)
kept fs ds es name rest sound plain h q =
    folder_changed fs ds es name rest None (Some h.after) sound (kept_sound fs ds es name rest sound h) plain
    (λ p. ap (lookup (bytes_eq p)) h.is ∙ lookup_set ds name h.before h.after p h.found)
    (λ r. h.changed.1 r ∙ ap (λ o. cond (bytes_eq rest r) None (option_and_then (λ b. text_at b.entries r) o)) (sym h.found)) q

pub emptied_sound : (fs : Entries) (ds es : List (List ℕ × Below)) (name rest : List ℕ) → is_sound fs ds ≡ true → LosesFolder name rest ds es → is_sound fs (remove_entry (bytes_eq name) es) ≡ true
emptied_sound fs ds es name rest sound h = ap (is_sound fs) h.others ∙ folder_removed_sound fs ds name sound

pub emptied : (fs : Entries) (ds es : List (List ℕ × Below)) (name rest : List ℕ) → is_sound fs ds ≡ true → has_no_slash name ≡ true → LosesFolder name rest ds es
    → (q : List ℕ) → text_at (level fs (remove_entry (bytes_eq name) es)) q ≡ cond (bytes_eq (name ++ 47 ∷ rest) q) None (text_at (level fs ds) q)
emptied fs ds es name rest sound plain h q =
    ap (λ x. text_at (level fs x) q) h.others ∙ folder_removed fs ds name rest sound plain h.alone q

-- what a call tells of a folder of which it takes a file away
abbrev pub Told : Bool → List ℕ → Below → Below → Type 0
Told left rest before after = (left ≡ has_files after) × LosesFile rest before after

-- what the folder at a name has after a file of it is taken away
pub removed_in : (name rest : List ℕ) (ds es : List (List ℕ × Below)) (so : Below → Below → Type 0) (left : Bool) → is_ascending ds ≡ true
    → ((b a : Below) → so b a → (left ≡ has_files a) × LosesFile rest b a)
    → Rewrites name so ds es → MatchBool left (Rewrites name (LosesOneFile rest) ds es) (LosesFolder name rest ds es)
removed_in name rest ds es so true order told h =
    let t = told h.before h.after h.changed in
    record { before = h.before; after = h.after; found = h.found; is = h.is; changed = (sym t.0, t.1) }
removed_in name rest ds es so false order told h =
    let t = told h.before h.after h.changed in
    record {
      order = ap is_ascending h.is ∙ ascending_set (bytes_eq name) ds h.after ∙ order;
      others = ap (remove_entry (bytes_eq name)) h.is ∙ removed_set (bytes_eq name) ds h.after;
      alone = λ r. sym (no_text h.after r (sym t.0)) ∙ t.1 r ∙ ap (λ o. cond (bytes_eq rest r) None (option_and_then (λ b. text_at b.entries r) o)) (sym h.found);
    }

-- a folder that is not there is as one that has no file left
either_way_one : {X : Type 0} (b : Bool) (x : X) → cond b x x ≡ x
either_way_one true x = refl
either_way_one false x = refl

pub absent_empties : (name rest : List ℕ) (ds : List (List ℕ × Below)) → is_ascending ds ≡ true → lookup (bytes_eq name) ds ≡ None → LosesFolder name rest ds ds
absent_empties name rest ds order none = record {
  order = order;
  others = refl;
  alone = λ r. sym (ap (λ o. cond (bytes_eq rest r) None (option_and_then (λ b. text_at b.entries r) o)) none ∙ either_way_one (bytes_eq rest r) None);
}

-- the value at a name of a list, and of an ordered map, is written

pub list_written : (es : List (List ℕ × Arc Below Global)) (i : ℕ) (k : List ℕ) (e : List ℕ × Arc Below Global) (w : Arc Below Global) (so : Below → Below → Type 0) → is_ascending (listed es) ≡ true
    → IsAt k es i → e ≡ get_or es i e → so e.1.value w.value → Rewrites k so (listed es) (listed (set es i (e.0, w)))
list_written es i k e w so h at one changed = record {
  before = e.1.value;
  after = w.value;
  found = listed_found es i k e h at ∙ ap (λ (f : List ℕ × Arc Below Global). Some f.1.value) (sym one);
  is = listed_set es i k e w h at one;
  changed = changed;
}

pub map_written : (es : List (String Global × Arc Below Global)) (q : List ℕ) (old w : Arc Below Global) (so : Below → Below → Type 0)
    → Some old ≡ lookup (is_at (λ k. slice_cmp nat_cmp q (string_bytes k))) es → so old.value w.value
    → Rewrites q so (each name_value es) (each name_value (set_value (is_at (λ k. slice_cmp nat_cmp q (string_bytes k))) es w))
map_written es q old w so found changed = record {
  before = old.value;
  after = w.value;
  found = mapped_lookup q es ∙ ap (option_map (λ a. a.value)) (sym found);
  is = mapped_set q es w;
  changed = changed;
}
