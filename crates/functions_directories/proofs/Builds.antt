-- A look-up finds a BUILD file exactly where a directory is a package.
use Rattle.std.proofs.Common.{◌≡◌, ◌∙◌, ap, sym, refl, ℕ, Bool, true, false, cond, ◌&&◌, ◌||◌, inl, inr, List, [], ◌∷◌, length, Some, None, codes}
use Rattle.std.specs.Prelude.{nat_le}
use Rattle.std.specs.List.{list_any, list_all}
use Rattle.std.specs.FinMap as map_of
use Rattle.std.specs.Ordering.{nat_cmp, eq_by_cmp}
use Rattle.std.specs.Cmp.Lexicographic.{slice_cmp}
use Rattle.std.proofs.lemmas.Bool.{and_parts, or_cases, false≢true}
use Rattle.std.proofs.lemmas.List.{append_assoc}
use Rattle.std.proofs.lemmas.Map.Lookups.{exact_bytes}
use Rattle.std.proofs.lemmas.Map.Views.{tells_apart}
use Rattle.labels.specs.Paths.{is_segment, segments, is_path}
use Rattle.filetree.specs.Files.{Files, is_file}
use Rattle.filetree.specs.Lawful.{HasPaths}
use Rattle.pattern.specs.Globs.{path_in, is_package}
use Rattle.keys.specs.declared.value.BuildName.{BuildName}
use Rattle.keys.specs.declared.value.BuildName.TheVariants.{BuildBazel, Build}
use Rattle.keys.specs.declared.value.Value.TheVariants as value
use Rattle.functions_directories.specs.Lookups.{file_name, build_path, is_short, has_file, build_of}
use Rattle.functions_directories.specs.Globs.{has_build}

-- a path among others
key_path : (q : List ℕ) (ks : List (List ℕ)) → list_any (eq_by_cmp (slice_cmp nat_cmp) q) ks ≡ true → list_all is_path ks ≡ true → is_path q ≡ true
key_path q [] h all = absurd (false≢true h)
key_path q (k ∷ ks) h all =
    let both = and_parts (is_path k) (list_all is_path ks) all in
    elim (or_cases (eq_by_cmp (slice_cmp nat_cmp) q k) (list_any (eq_by_cmp (slice_cmp nat_cmp) q) ks) h) [
      | inl here ↦ ap is_path (tells_apart exact_bytes q k here) ∙ both.0
      | inr there ↦ key_path q ks there both.1
    ]

and_never : (a : Bool) → a && false ≡ false
and_never true = refl
and_never false = refl

built : (a b : Bool) → has_build (value.Lookup (cond a (Some BuildBazel) (cond b (Some Build) None))) ≡ a || b
built true b = refl
built false true = refl
built false false = refl

build_at : (directory : List ℕ) (name : BuildName) → build_path directory name ≡ path_in directory (file_name name)
build_at [] name = refl
build_at (d ∷ ds) name = append_assoc (d ∷ ds) (codes "/") (file_name name)

module _ (files : Files) (good : HasPaths files) where
  short_there : (q : List ℕ) (name : BuildName) → has_file files q name ≡ is_file files (path_in q (file_name name))
  short_there q name = go (is_file files (build_path q name)) refl ∙ ap (is_file files) (build_at q name)
    where
      go : (t : Bool) → is_file files (build_path q name) ≡ t → is_short q name && is_file files (build_path q name) ≡ is_file files (build_path q name)
      go true e =
          let path = key_path (build_path q name) (map_of.keys files) (sym (map_of.contains_key-keys files (build_path q name)) ∙ e) good in
          ap (λ b. b && is_file files (build_path q name)) (and_parts (nat_le (length (build_path q name)) 255) (list_all is_segment (segments (build_path q name))) path).0
      go false e = ap (λ b. is_short q name && b) e ∙ and_never (is_short q name) ∙ sym e

  pub built_there : (q : List ℕ) → has_build (value.Lookup (build_of files q)) ≡ is_package files q
  built_there q = built (has_file files q BuildBazel) (has_file files q Build) ∙ (λ i. short_there q BuildBazel i || short_there q Build i)
