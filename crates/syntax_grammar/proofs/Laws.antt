-- What a text is parsed to, by the grammar.
use Rattle.std.proofs.Common.{◌≡◌, ◌∙◌, ℕ, List, Bool, true, false, Option, Some, None, Result, Ok, Err, cond, refl, sym, ap, subst}
use Rattle.syntax_tokens.specs.Token.{Lex}
use Rattle.syntax_tokens.specs.Lines.{scan, start}
use Rattle.syntax_tokens.specs.Nesting.{outermost, too_deep}
use Rattle.syntax_tokens.specs.Reading.{Fault, fault, foreign, of_ascii, not_too_deep, tokens_of}
use Rattle.syntax_tree.specs.Tree.{Fi}
use Rattle.syntax_grammar.specs.declared.kind.FileKind.{FileKind}
use Rattle.syntax_grammar.specs.Front.{Part}
use Rattle.syntax_grammar.specs.Files.{file, file_or_fault, file_of_tokens, parse_of}
use Rattle.syntax_grammar.specs.Grammar.{IsFile}
use Rattle.syntax_grammar.specs.Texts as x
use Rattle.syntax_grammar.specs.Texts.{IsTree, IsRefused, NoTextHasTwoTrees, NoTreeIsRefused}
use Rattle.syntax_grammar.proofs.CompleteFiles.{file_reads}
use Rattle.syntax_grammar.proofs.SoundFiles.{file_sound}
use Rattle.syntax_grammar.proofs.Sound.{some_is}

-- ---- tokens of a text are not nested too deep

deep_or : (found ts : List Lex) (deep : Bool) → too_deep outermost found ≡ deep → cond deep (fault 12 0) (Ok found) ≡ Ok ts → too_deep outermost ts ≡ false
deep_or found ts true is h = cc
deep_or found ts false is h = let same : found ≡ ts = cc in sym (ap (too_deep outermost) same) ∙ is

shallow_tokens : (found : Option (List Lex)) (ts : List Lex) → not_too_deep found ≡ Ok ts → too_deep outermost ts ≡ false
shallow_tokens None ts h = cc
shallow_tokens (Some found) ts h = deep_or found ts (too_deep outermost found) refl h

shallow_ascii : (o : Option ℕ) (bytes : List ℕ) (ts : List Lex) → of_ascii o bytes ≡ Ok ts → too_deep outermost ts ≡ false
shallow_ascii (Some line) bytes ts h = cc
shallow_ascii None bytes ts h = shallow_tokens (scan start 0 bytes) ts h

shallow : (bytes : List ℕ) (ts : List Lex) → tokens_of bytes ≡ Ok ts → too_deep outermost ts ≡ false
unfolding tokens_of
shallow bytes ts h = shallow_ascii (foreign 1 bytes) bytes ts h

-- ---- no text has two trees

one_tokens : {a b : List Lex} (bytes : List ℕ) → tokens_of bytes ≡ Ok a → tokens_of bytes ≡ Ok b → a ≡ b
one_tokens bytes h i = cc

one_file : (kind : FileKind) (ts us : List Lex) (a b : Fi) → ts ≡ us → too_deep outermost ts ≡ false → too_deep outermost us ≡ false → IsFile kind ts a → IsFile kind us b → a ≡ b
one_file kind ts us a b same h i d e =
    ap (λ (p : Part Fi). p.value) (some_is (sym (file_reads d h).is ∙ ap (file kind) same ∙ (file_reads e i).is))

pub one_tree : NoTextHasTwoTrees
one_tree kind bytes a b d e = one_file kind d.tokens e.tokens a b (one_tokens bytes d.are e.are) (shallow bytes d.tokens d.are) (shallow bytes e.tokens e.are) d.is e.is

-- ---- what the functions give is what the grammar says

no_file : (kind : FileKind) (bytes : List ℕ) (ts : List Lex) → tokens_of bytes ≡ Ok ts → file kind ts ≡ None → (tree : Fi) → IsFile kind ts tree → ⊥
no_file kind bytes ts is none tree d = let read = (file_reads d (shallow bytes ts is)).is in cc

tree_of_file : (kind : FileKind) (bytes : List ℕ) (ts : List Lex) (tree : Fi) (o : Option (Part Fi)) → tokens_of bytes ≡ Ok ts → file kind ts ≡ o → file_or_fault o ≡ Ok tree → IsTree kind bytes tree
tree_of_file kind bytes ts tree None are is h = cc
tree_of_file kind bytes ts tree (Some part) are is h = let same : part.value ≡ tree = cc in record { tokens = ts; are = are; is = subst (IsFile kind ts) same (file_sound kind ts part is) }

tree_of_tokens : (kind : FileKind) (bytes : List ℕ) (tree : Fi) (found : Result (List Lex) Fault) → tokens_of bytes ≡ found → file_of_tokens kind found ≡ Ok tree → IsTree kind bytes tree
tree_of_tokens kind bytes tree (Err e) is h = cc
tree_of_tokens kind bytes tree (Ok ts) is h = tree_of_file kind bytes ts tree (file kind ts) is refl h

pub parse_tree : (kind : FileKind) (bytes : List ℕ) (tree : Fi) → parse_of kind bytes ≡ Ok tree → IsTree kind bytes tree
unfolding parse_of
parse_tree kind bytes tree h = tree_of_tokens kind bytes tree (tokens_of bytes) refl h

refused_file : (kind : FileKind) (bytes : List ℕ) (ts : List Lex) (e : Fault) (o : Option (Part Fi)) → tokens_of bytes ≡ Ok ts → file kind ts ≡ o → file_or_fault o ≡ Err e → IsRefused kind bytes e
refused_file kind bytes ts e None are is h = let same : record { code = 3; line = 0 } ≡ e = cc in subst (IsRefused kind bytes) same (x.by_grammar are (no_file kind bytes ts are is))
refused_file kind bytes ts e (Some part) are is h = cc

refused_tokens : (kind : FileKind) (bytes : List ℕ) (e : Fault) (found : Result (List Lex) Fault) → tokens_of bytes ≡ found → file_of_tokens kind found ≡ Err e → IsRefused kind bytes e
refused_tokens kind bytes e (Err f) is h = let same : f ≡ e = cc in subst (IsRefused kind bytes) same (x.by_tokens is)
refused_tokens kind bytes e (Ok ts) is h = refused_file kind bytes ts e (file kind ts) is refl h

pub parse_refused : (kind : FileKind) (bytes : List ℕ) (e : Fault) → parse_of kind bytes ≡ Err e → IsRefused kind bytes e
unfolding parse_of
parse_refused kind bytes e h = refused_tokens kind bytes e (tokens_of bytes) refl h

tree_refused : {kind : FileKind} {bytes : List ℕ} {e : Fault} → IsRefused kind bytes e → (ts : List Lex) (tree : Fi) → tokens_of bytes ≡ Ok ts → IsFile kind ts tree → ⊥
tree_refused (x.by_tokens h) ts tree are is = cc
tree_refused {kind} {bytes} (x.by_grammar {tokens = us} h none) ts tree are is = let same : ts ≡ us = cc in none tree (subst (λ y. IsFile kind y tree) same is)

pub no_tree_refused : NoTreeIsRefused
no_tree_refused kind bytes a e d refused = tree_refused refused d.tokens a d.are d.is
