-- The leaves that an edit of a path touches, one by one.
use Rattle.std.proofs.Common.{◌≡◌, ◌∙◌, ap, sym, ℕ, List, [], ◌∷◌, ◌++◌, reverse, map}
use Rattle.std.proofs.lemmas.List.{reverse-append, map-append, append_assoc}
use Rattle.labels.specs.Labels.{ancestors}
use Rattle.keys.specs.EditLeaves.{leaves_of}
use Rattle.keys.specs.declared.key.Key.{Key}
use Rattle.keys.specs.declared.key.Key.TheVariants as key

-- one more directory above
pub one_above : (rest d name : List ℕ) (listings now : List Key) → ancestors rest ≡ ancestors d ++ d ∷ [] → now ≡ listings ++ key.Listing name ∷ [] → name ≡ d
    → map key.Listing (ancestors d) ++ reverse now ≡ map key.Listing (ancestors rest) ++ reverse listings
one_above rest d name listings now split pushed is =
    ap (λ n. map key.Listing (ancestors d) ++ reverse n) pushed
    ∙ ap (λ r. map key.Listing (ancestors d) ++ r) (reverse-append listings (key.Listing name ∷ []))
    ∙ ap (λ y. map key.Listing (ancestors d) ++ (key.Listing y ∷ reverse listings)) is
    ∙ sym (append_assoc (map key.Listing (ancestors d)) (key.Listing d ∷ []) (reverse listings))
    ∙ ap (λ a. a ++ reverse listings) (sym (map-append key.Listing (ancestors d) (d ∷ [])))
    ∙ ap (λ a. map key.Listing a ++ reverse listings) (sym split)

-- and then the root and the file
pub all_touched : (path root file : List ℕ) (listings with_root now leaves : List Key) → reverse listings ≡ map key.Listing (ancestors path) → with_root ≡ listings ++ key.Listing root ∷ [] → now ≡ with_root ++ key.File file ∷ []
    → leaves ≡ reverse now → root ≡ [] → file ≡ path → leaves ≡ leaves_of path
all_touched path root file listings with_root now leaves above pushed_root pushed_file turned is_root is_file =
    turned ∙ ap reverse pushed_file ∙ reverse-append with_root (key.File file ∷ [])
    ∙ ap (λ r. key.File file ∷ r) (ap reverse pushed_root ∙ reverse-append listings (key.Listing root ∷ []))
    ∙ ap (λ r. key.File file ∷ key.Listing root ∷ r) above
    ∙ ap (λ r. key.File file ∷ key.Listing r ∷ map key.Listing (ancestors path)) is_root
    ∙ ap (λ f. key.File f ∷ key.Listing [] ∷ map key.Listing (ancestors path)) is_file
