-- What is parsed is what the definition of the tree of a text gives.
use Rattle.std.proofs.Common.{◌≡◌, ℕ, List, Result, Ok, Err, refl, ap, ◌∙◌}
use Rattle.syntax_tokens.specs.Reading.{Fault}
use Rattle.syntax_tree.specs.Tree.{Fi}
use Rattle.syntax_grammar.specs.declared.kind.FileKind.{FileKind}
use Rattle.syntax_grammar.specs.Files.{parse_of}
use Rattle.syntax_grammar.specs.Texts.{IsTree, IsRefused, by_tokens, by_grammar}
use Rattle.syntax_grammar.proofs.Laws.{parse_tree, parse_refused, one_tree, no_tree_refused}

-- a text is refused by one fault
one_fault : (kind : FileKind) (bytes : List ℕ) (e f : Fault) → IsRefused kind bytes e → IsRefused kind bytes f → e ≡ f
one_fault kind bytes e f (by_tokens g) (by_tokens h) = cc
one_fault kind bytes e f (by_tokens g) (by_grammar h never) = cc
one_fault kind bytes e f (by_grammar g never) (by_tokens h) = cc
one_fault kind bytes e f (by_grammar g never) (by_grammar h also) = refl

pub tree_is : (kind : FileKind) (bytes : List ℕ) (tree : Fi) → IsTree kind bytes tree → parse_of kind bytes ≡ Ok tree
tree_is kind bytes tree is = go (parse_of kind bytes) refl
  where
    go : (found : Result Fi Fault) → parse_of kind bytes ≡ found → parse_of kind bytes ≡ Ok tree
    go (Ok other) e = e ∙ ap Ok (one_tree kind bytes other tree (parse_tree kind bytes other e) is)
    go (Err f) e = absurd (no_tree_refused kind bytes tree f is (parse_refused kind bytes f e))

pub fault_is : (kind : FileKind) (bytes : List ℕ) (f : Fault) → IsRefused kind bytes f → parse_of kind bytes ≡ Err f
fault_is kind bytes f is = go (parse_of kind bytes) refl
  where
    go : (found : Result Fi Fault) → parse_of kind bytes ≡ found → parse_of kind bytes ≡ Err f
    go (Ok tree) e = absurd (no_tree_refused kind bytes tree f (parse_tree kind bytes tree e) is)
    go (Err other) e = e ∙ ap Err (one_fault kind bytes other f (parse_refused kind bytes other e) is)
