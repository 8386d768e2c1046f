-- The text and the entries of a load, from the known value of its packages.
use Rattle.std.proofs.Common.{◌≡◌, ℕ, true, List, [], ◌∷◌, map, None, refl, ap, ◌∙◌}
use Rattle.std.specs.Prelude.{Option}
use Rattle.std.specs.List.{list_all}
use Rattle.std.proofs.lemmas.Bool.{and_parts}
use Rattle.engine_semantics.specs.Value.{In, first, after}
use Rattle.filetree.specs.Files.{Files}
use Rattle.filetree.specs.Lawful.{HasPaths}
use Rattle.keys.specs.declared.key.Key.TheVariants as key
use Rattle.keys.specs.declared.value.Value.{Value}
use Rattle.labels.specs.Paths.{is_package_name}
use Rattle.node.specs.Graphs.{GraphView, record_at, present}
use Rattle.functions.proofs.NodeValues.{packages_hold}
use Rattle.loader_commands.specs.Commands.{load}
use Rattle.loader_commands.specs.Refusals.{request_refusal}
use Rattle.serde_json.specs.Written.{compact_text}
use Rattle.loader_replies.specs.Answers.{packages_data}
use Rattle.loader_answers.specs.Answers.{IsRequestAnswer, Tells}
use Rattle.loader_answers.specs.Effects.{AreSettled}
use Rattle.loader_answers.specs.KeyAnswers.{package_reply}
use Rattle.loader_answers.specs.Publishing.{Entries, AreEntries, HaveTextsHeld, TellPackages, names_in, each_of, package_held, text_held}
use Rattle.loader_answers.proofs.Requests.{load_accepted, load_told, text_told}
use Rattle.loader_answers.proofs.Naming.{are_each}

is_named : (names : List (List ℕ)) (name : List ℕ) → list_all is_package_name names ≡ true → In name names → is_package_name name ≡ true
is_named (n ∷ ns) name h first = (and_parts (is_package_name n) (list_all is_package_name ns) h).0
is_named (n ∷ ns) name h (after i) = is_named ns name (and_parts (is_package_name n) (list_all is_package_name ns) h).1 i
is_named [] name h i = elim i [ ]

key_in : (names : List (List ℕ)) (name : List ℕ) → In name names → In (key.Package name) (map (λ n. key.Package n) names)
key_in (n ∷ ns) name first = first
key_in (n ∷ ns) name (after i) = after (key_in ns name i)
key_in [] name i = elim i [ ]

tells_held : (files : Files) (graph : GraphView) (names : List (List ℕ)) → HasPaths files → request_refusal (load names) ≡ None → AreSettled files (map (λ n. key.Package n) names) graph
    → TellPackages files names (text_held graph)
tells_held files graph names good accepted held name i =
    let there = held (key.Package name) (key_in names name i) in
    let named = is_named names name (load_accepted names accepted) i in
    (package_held graph name, (there.0, packages_hold files name there.0 good named there.1, ap (λ (o : Option Value). package_reply (key.Package name) o) there.2), refl)

-- the entries of a load, each name once
pub entries_held : (files : Files) (graph : GraphView) (names : List (List ℕ)) (entries : Entries) → HasPaths files → request_refusal (load names) ≡ None → AreSettled files (map (λ n. key.Package n) names) graph
    → HaveTextsHeld graph entries → names_in entries ≡ each_of names → AreEntries files names entries
entries_held files graph names entries good accepted held texts is =
    (each_of names, text_held graph, are_each names, tells_held files graph names good accepted held, texts ∙ ap (map (λ n. (n, text_held graph n))) is)

by_key : (graph : GraphView) (names : List (List ℕ)) → map (package_held graph) names ≡ map (λ k. package_reply k (present (record_at graph k))) (map (λ n. key.Package n) names)
by_key graph [] = refl
by_key graph (n ∷ ns) = ap (λ ds. package_held graph n ∷ ds) (by_key graph ns)

-- the line of a load
pub line_held : (files : Files) (graph : GraphView) (names : List (List ℕ)) (line : List ℕ) → HasPaths files → request_refusal (load names) ≡ None → AreSettled files (map (λ n. key.Package n) names) graph
    → line ≡ compact_text (packages_data (map (package_held graph) names)) → Tells (IsRequestAnswer (load names) files) line
line_held files graph names line good accepted held is =
    let d = packages_data (map (package_held graph) names) in
    text_told (load names) files line accepted (d, load_told files names (map (λ n. key.Package n) names) graph d good accepted refl (ap packages_data (by_key graph names)) held, is)
