-- How the logic stores what the evaluation of a file leaves.
use Rattle.std.specs.Prelude.{ℕ, List, refl}
use Rattle.std.specs.Coded.{Coded, code_by, coded×, coded_ℕ, coded_list}
use Rattle.values_semantics.specs.Freezing.{Fz, Fzs}
use Rattle.syntax_tree.specs.Tree.{Fn}
use Rattle.values_freeze.specs.Storage.{frozen_code, members_code}
use Rattle.values_modules.specs.TreeStorage.{fn_code}
use Rattle.values_modules.specs.Values.{Frozen, Defaults, Body, ModuleValue}

abbrev pub binding_code : Coded Frozen
binding_code = code_by (List ℕ × Fz) (coded× (coded_list coded_ℕ) frozen_code) (λ b. (b.name, b.value)) (λ q. record { name = q.0; value = q.1 }) (λ _. refl)

abbrev pub defaults_code : Coded Defaults
defaults_code = code_by (List ℕ × Fzs) (coded× (coded_list coded_ℕ) members_code) (λ d. (d.name, d.values)) (λ q. record { name = q.0; values = q.1 }) (λ _. refl)

abbrev pub body_code : Coded Body
body_code =
    code_by (List ℕ × (List ℕ × (List Frozen × (List Frozen × (List Fn × List Defaults)))))
    (coded× (coded_list coded_ℕ) (coded× (coded_list coded_ℕ) (coded× (coded_list binding_code) (coded× (coded_list binding_code) (coded× (coded_list fn_code) (coded_list defaults_code))))))
    (λ b. (b.label, (b.path, (b.own, (b.loaded, (b.functions, b.defaults))))))
    (λ q. record { label = q.0; path = q.1.0; own = q.1.1.0; loaded = q.1.1.1.0; functions = q.1.1.1.1.0; defaults = q.1.1.1.1.1 })
    (λ _. refl)

abbrev pub loaded_code : Coded ModuleValue
loaded_code = code_by (Body × List Body) (coded× body_code (coded_list body_code)) (λ m. (m.body, m.reached)) (λ q. record { body = q.0; reached = q.1 }) (λ _. refl)
