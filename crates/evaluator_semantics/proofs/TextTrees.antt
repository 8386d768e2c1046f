-- The tree of a text, as the definitions of the grammar compute it.
use Rattle.std.specs.Prelude.{ℕ, List, Result}
use Rattle.syntax_grammar.specs.declared.kind.FileKind.{FileKind}
use Rattle.syntax_tree.specs.Tree.{Fi}
use Rattle.syntax_tokens.specs.Reading.{Fault, tokens_of}
use Rattle.syntax_tokens.specs.Lines.{begun, layout, brackets_after, part_after, tokens_of_part, ending, scan}
use Rattle.syntax_tokens.specs.Nesting.{too_deep}
use Rattle.syntax_tokens.specs.Pieces.{operator_at, word_at, number_at, string_at, piece_at}
use Rattle.syntax_tokens.specs.Strings.{extent}
use Rattle.syntax_tokens.specs.Words.{word_of, is_name_text}
use Rattle.syntax_grammar.specs.Front.{same, is_at, tail, line_at, name_at, is_name_before, text_at, is_end}
use Rattle.syntax_grammar.specs.Expressions.{items_after, items, target, targets_after, more_targets, targets, for_clause, clauses_after, clauses, in_parens, in_brackets, entry, entries_after, entries, dict_after, in_braces, argument, arguments_after, arguments_so_far, arguments, upper_bound, slice_from, subscript, method_call, call, postfix_after, postfix_rest, symbol_atom, atom, postfix, unary, operator_at as expressions_operator_at, chain_after, chain, comparison_at, comparison, term, sum, not_test, and_test, or_test, conditional, expr}
use Rattle.syntax_grammar.specs.Statements.{a_test, loop_targets, exprs_after, more_exprs, exprs, augment_at, return_rest, expr_rest, small, simple, stmts_after, stmts, block, suite, branch, branches_after, more_branches, other, if_rest, for_rest, statement, stmt}
use Rattle.syntax_grammar.specs.Files.{param_rest, param, params_after, params, body, def_rest, a_string, a_name_string, item, items_after as files_items_after, more_items, load_rest, loads_after, loads, top, tops_after, tops, leading, file, parse_of}

unfoldable pub parsed : FileKind → List ℕ → Result Fi Fault
unfolding begun layout brackets_after part_after tokens_of_part ending scan too_deep operator_at word_at number_at string_at piece_at tokens_of extent word_of is_name_text same is_at tail line_at name_at is_name_before text_at is_end items_after items target targets_after more_targets targets for_clause clauses_after clauses in_parens in_brackets entry entries_after entries dict_after in_braces argument arguments_after arguments_so_far arguments upper_bound slice_from subscript method_call call postfix_after postfix_rest symbol_atom atom postfix unary expressions_operator_at chain_after chain comparison_at comparison term sum not_test and_test or_test conditional expr a_test loop_targets exprs_after more_exprs exprs augment_at return_rest expr_rest small simple stmts_after stmts block suite branch branches_after more_branches other if_rest for_rest statement stmt param_rest param params_after params body def_rest a_string a_name_string item files_items_after more_items load_rest loads_after loads top tops_after tops leading file parse_of
parsed = parse_of
