-- A law of what names have.
use Rattle.std.specs.Prelude.{◌≡◌, ℕ, List, map, cond, Some}
use Rattle.std.specs.List.{list_any}
use Rattle.shelf.specs.declared.publish.Publish.{Publish}
use Rattle.shelf.specs.Lists.{same_text, entry, then_published}

-- after a publish of names, each with its text, these names have it, and the others what they had
abbrev pub EachNameHasItsText : Type 0
EachNameHasItsText =
    (list : List Publish) (version : ℕ) (text : List ℕ → List ℕ) (names : List (List ℕ)) (name : List ℕ)
    → entry (then_published list version (map (λ n. (n, text n)) names)) name ≡ cond (list_any (λ n. same_text n name) names) (Some (version, text name)) (entry list name)
