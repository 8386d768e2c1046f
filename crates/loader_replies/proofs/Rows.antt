-- Replies with their bytes, which the definitions compute.
use Rattle.std.proofs.Common.{◌≡◌, ℕ, List, [], ◌∷◌, map, refl}
use Rattle.std.specs.Prelude.{codes}
use Rattle.std.specs.Str.{is_utf8, chars}
use Rattle.std.specs.Str.Lossy.{utf8_lossy, utf8_valid_len, utf8_error_len}
use Rattle.std.specs.Fmt.{digits}
use lib.Utf8.{encode}
use Rattle.serde_json.proofs.OnLiterals.{serde_json_on_literals}
use Rattle.values_semantics.specs.Freezing.{Fz}
use Rattle.values_modules.specs.Values.{Attribute, single, several, Target}
use Rattle.serde_json.specs.Data.{Data}
use Rattle.serde_json.specs.Written.{compact_text}
use Rattle.loader_replies.specs.Answers.{package_data, faulty_package, packages_data, fault_data, cycle_data, module_data, faulty_module}

abbrev made : List ℕ → List ℕ → List (List ℕ × Attribute) → Target
made kind name attributes = record { kind = kind; name = name; attributes = attributes }

abbrev only : Data → List ℕ
only d = compact_text (packages_data (d ∷ []))

a_target : only (package_data (codes "a") (made (codes "filegroup") (codes "l") [] ∷ [])) ≡ codes "{\"packages\":[{\"name\":\"a\",\"targets\":[{\"attrs\":{},\"kind\":\"filegroup\",\"name\":\"l\"}]}]}"
unfolding serde_json_on_literals utf8_lossy utf8_valid_len utf8_error_len is_utf8 chars encode
a_target = refl

no_targets : only (package_data (codes "c") []) ≡ codes "{\"packages\":[{\"name\":\"c\",\"targets\":[]}]}"
unfolding serde_json_on_literals digits
no_targets = refl

attributes_in_byte_order : only (package_data (codes "a") (made (codes "genrule") (codes "g") ((codes "tags", several (codes "t" ∷ codes "a" ∷ [])) ∷ (codes "cmd", single (codes "c")) ∷ []) ∷ []))
    ≡ codes "{\"packages\":[{\"name\":\"a\",\"targets\":[{\"attrs\":{\"cmd\":\"c\",\"tags\":[\"t\",\"a\"]},\"kind\":\"genrule\",\"name\":\"g\"}]}]}"
unfolding serde_json_on_literals utf8_lossy utf8_valid_len utf8_error_len is_utf8 chars encode
attributes_in_byte_order = refl

no_package : only (faulty_package (codes "x") (fault_data 1 (codes "x") 0)) ≡ codes "{\"packages\":[{\"fault\":{\"code\":1,\"line\":0,\"path\":\"x\"},\"name\":\"x\"}]}"
unfolding serde_json_on_literals digits
no_package = refl

loads_go_round : only (faulty_package (codes "c") (cycle_data (codes "//c:a.bzl" ∷ codes "//c:b.bzl" ∷ []))) ≡ codes "{\"packages\":[{\"fault\":{\"code\":19,\"cycle\":[\"//c:a.bzl\",\"//c:b.bzl\"]},\"name\":\"c\"}]}"
unfolding serde_json_on_literals digits
loads_go_round = refl

names_in_byte_order : (x : Fz) → compact_text (module_data (record { label = []; path = []; own = map (λ n. record { name = n; value = x }) (codes "b" ∷ codes "_c" ∷ codes "A" ∷ []); loaded = record { name = codes "Z"; value = x } ∷ []; functions = []; defaults = [] }))
    ≡ codes "{\"exports\":[\"A\",\"b\"]}"
unfolding serde_json_on_literals digits
names_in_byte_order x = refl

a_faulty_module : compact_text (faulty_module (fault_data 12 (codes "f/m.bzl") 0)) ≡ codes "{\"fault\":{\"code\":12,\"line\":0,\"path\":\"f/m.bzl\"}}"
unfolding serde_json_on_literals digits
a_faulty_module = refl
