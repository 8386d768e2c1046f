-- Equal ones are one, exactly.
use Rattle.std.proofs.Common.{◌≡◌, ℕ, List, [], ◌∷◌, Bool, true, false, ◌&&◌, refl, sym, ap, ◌∙◌}
use Rattle.std.specs.Bool.{Decides}
use Rattle.std.specs.Cmp.{IsEquivalence, decided}
use Rattle.std.specs.Cmp.Lexicographic.{pointwise}
use lib.Pointwise.{pointwise_decides, bytes_decides}
use Rattle.values_semantics.specs.Freezing.{Fz, Fzs, no_members, member}
use Rattle.values_freeze.specs.Same.{same}
use Rattle.values_freeze.specs.SameLaws.{same_exact}
use Rattle.values_freeze.specs.View.{members_of}
use Rattle.values_modules.specs.Same.{same_fn}
use Rattle.values_modules.specs.SameLaws.{fns_decide}
use Rattle.values_modules.specs.Values.{Attribute, single, several, Target, Frozen, Defaults, Body, ModuleValue}
use Rattle.values_modules.specs.Equal.{text_eq, attribute_eq, named_eq, target_eq, frozen_eq, values_of, defaults_eq, body_eq, loaded_eq}

each : (p q : Bool) → p && q ≡ true → (p ≡ true) × (q ≡ true)
each true true h = (refl, refl)
each true false h = cc
each false q h = cc

together : (p q : Bool) → p ≡ true → q ≡ true → p && q ≡ true
together p q h g = ap (λ x. x && q) h ∙ g

-- a test that finds equal ones to be one, and each equal to itself, decides
exactly : {A : Type 0} → (eq : A → A → Bool) → ((a b : A) → eq a b ≡ true → a ≡ b) → ((a : A) → eq a a ≡ true) → (a b : A) → Decides (eq a b) (a ≡ b)
exactly eq one itself a b = (one a b, λ e. ap (eq a) (sym e) ∙ itself a)

pub attributes_decide : (a b : Attribute) → Decides (attribute_eq a b) (a ≡ b)
attributes_decide (single s) (single t) = (λ h. ap single ((bytes_decides s t).0 h), λ e. (bytes_decides s t).1 (cc))
attributes_decide (single s) (several ts) = (λ h. cc, λ e. cc)
attributes_decide (several ss) (single t) = (λ h. cc, λ e. cc)
attributes_decide (several ss) (several ts) = let d = pointwise_decides bytes_decides ss ts in (λ h. ap several (d.0 h), λ e. d.1 (cc))

named_decide : (a b : List ℕ × Attribute) → Decides (named_eq a b) (a ≡ b)
named_decide = exactly named_eq
    (λ a b h. let p = each (text_eq a.0 b.0) (attribute_eq a.1 b.1) h in λ i. ((bytes_decides a.0 b.0).0 p.0 i, (attributes_decide a.1 b.1).0 p.1 i))
    (λ a. together (text_eq a.0 a.0) (attribute_eq a.1 a.1) ((bytes_decides a.0 a.0).1 refl) ((attributes_decide a.1 a.1).1 refl))

pub targets_decide : (a b : Target) → Decides (target_eq a b) (a ≡ b)
targets_decide = exactly target_eq
    (λ a b h.
    let p = each (text_eq a.kind b.kind && text_eq a.name b.name) (pointwise named_eq a.attributes b.attributes) h in
    let q = each (text_eq a.kind b.kind) (text_eq a.name b.name) p.0 in
    λ i. record { kind = (bytes_decides a.kind b.kind).0 q.0 i; name = (bytes_decides a.name b.name).0 q.1 i; attributes = (pointwise_decides named_decide a.attributes b.attributes).0 p.1 i })
    (λ a.
    together (text_eq a.kind a.kind && text_eq a.name a.name) (pointwise named_eq a.attributes a.attributes)
    (together (text_eq a.kind a.kind) (text_eq a.name a.name) ((bytes_decides a.kind a.kind).1 refl) ((bytes_decides a.name a.name).1 refl))
    ((pointwise_decides named_decide a.attributes a.attributes).1 refl))

pub frozen_decide : (a b : Frozen) → Decides (frozen_eq a b) (a ≡ b)
frozen_decide = exactly frozen_eq
    (λ a b h. let p = each (text_eq a.name b.name) (same a.value b.value) h in λ i. record { name = (bytes_decides a.name b.name).0 p.0 i; value = (same_exact a.value b.value).0 p.1 i })
    (λ a. together (text_eq a.name a.name) (same a.value a.value) ((bytes_decides a.name a.name).1 refl) ((same_exact a.value a.value).1 refl))

back : (fs : Fzs) → members_of (values_of fs) ≡ fs
back no_members = refl
back (member f fs) = ap (member f) (back fs)

pub forth : (fs : List Fz) → values_of (members_of fs) ≡ fs
forth [] = refl
forth (f ∷ fs) = ap (λ l. f ∷ l) (forth fs)

values_decide : (a b : Fzs) → Decides (pointwise same (values_of a) (values_of b)) (a ≡ b)
values_decide = exactly (λ a b. pointwise same (values_of a) (values_of b))
    (λ a b h. sym (back a) ∙ (ap members_of ((pointwise_decides same_exact (values_of a) (values_of b)).0 h) ∙ back b))
    (λ a. (pointwise_decides same_exact (values_of a) (values_of a)).1 refl)

pub defaults_decide : (a b : Defaults) → Decides (defaults_eq a b) (a ≡ b)
defaults_decide = exactly defaults_eq
    (λ a b h. let p = each (text_eq a.name b.name) (pointwise same (values_of a.values) (values_of b.values)) h in λ i. record { name = (bytes_decides a.name b.name).0 p.0 i; values = (values_decide a.values b.values).0 p.1 i })
    (λ a. together (text_eq a.name a.name) (pointwise same (values_of a.values) (values_of a.values)) ((bytes_decides a.name a.name).1 refl) ((values_decide a.values a.values).1 refl))

pub bodies_decide : (a b : Body) → Decides (body_eq a b) (a ≡ b)
bodies_decide = exactly body_eq
    (λ a b h.
    let p = each (text_eq a.label b.label && text_eq a.path b.path && pointwise frozen_eq a.own b.own && pointwise frozen_eq a.loaded b.loaded && pointwise same_fn a.functions b.functions) (pointwise defaults_eq a.defaults b.defaults) h in
    let q = each (text_eq a.label b.label && text_eq a.path b.path && pointwise frozen_eq a.own b.own && pointwise frozen_eq a.loaded b.loaded) (pointwise same_fn a.functions b.functions) p.0 in
    let r = each (text_eq a.label b.label && text_eq a.path b.path && pointwise frozen_eq a.own b.own) (pointwise frozen_eq a.loaded b.loaded) q.0 in
    let s = each (text_eq a.label b.label && text_eq a.path b.path) (pointwise frozen_eq a.own b.own) r.0 in
    let t = each (text_eq a.label b.label) (text_eq a.path b.path) s.0 in
    λ i. record {
      label = (bytes_decides a.label b.label).0 t.0 i;
      path = (bytes_decides a.path b.path).0 t.1 i;
      own = (pointwise_decides frozen_decide a.own b.own).0 s.1 i;
      loaded = (pointwise_decides frozen_decide a.loaded b.loaded).0 r.1 i;
      functions = (pointwise_decides fns_decide a.functions b.functions).0 q.1 i;
      defaults = (pointwise_decides defaults_decide a.defaults b.defaults).0 p.1 i;
    })
    (λ a.
    together (text_eq a.label a.label && text_eq a.path a.path && pointwise frozen_eq a.own a.own && pointwise frozen_eq a.loaded a.loaded && pointwise same_fn a.functions a.functions) (pointwise defaults_eq a.defaults a.defaults)
    (together (text_eq a.label a.label && text_eq a.path a.path && pointwise frozen_eq a.own a.own && pointwise frozen_eq a.loaded a.loaded) (pointwise same_fn a.functions a.functions)
    (together (text_eq a.label a.label && text_eq a.path a.path && pointwise frozen_eq a.own a.own) (pointwise frozen_eq a.loaded a.loaded)
    (together (text_eq a.label a.label && text_eq a.path a.path) (pointwise frozen_eq a.own a.own)
    (together (text_eq a.label a.label) (text_eq a.path a.path) ((bytes_decides a.label a.label).1 refl) ((bytes_decides a.path a.path).1 refl))
    ((pointwise_decides frozen_decide a.own a.own).1 refl))
    ((pointwise_decides frozen_decide a.loaded a.loaded).1 refl))
    ((pointwise_decides fns_decide a.functions a.functions).1 refl))
    ((pointwise_decides defaults_decide a.defaults a.defaults).1 refl))

pub loaded_decide : (a b : ModuleValue) → Decides (loaded_eq a b) (a ≡ b)
loaded_decide = exactly loaded_eq
    (λ a b h. let p = each (body_eq a.body b.body) (pointwise body_eq a.reached b.reached) h in λ i. record { body = (bodies_decide a.body b.body).0 p.0 i; reached = (pointwise_decides bodies_decide a.reached b.reached).0 p.1 i })
    (λ a. together (body_eq a.body a.body) (pointwise body_eq a.reached a.reached) ((bodies_decide a.body a.body).1 refl) ((pointwise_decides bodies_decide a.reached a.reached).1 refl))

pub all_targets_equiv : IsEquivalence (pointwise target_eq)
all_targets_equiv = decided (pointwise target_eq) (pointwise_decides targets_decide)

pub frozen_equiv : IsEquivalence frozen_eq
frozen_equiv = decided frozen_eq frozen_decide

pub defaults_equiv : IsEquivalence defaults_eq
defaults_equiv = decided defaults_eq defaults_decide

pub bodies_equiv : IsEquivalence body_eq
bodies_equiv = decided body_eq bodies_decide

pub loaded_equiv : IsEquivalence loaded_eq
loaded_equiv = decided loaded_eq loaded_decide

pub texts_equiv : IsEquivalence (pointwise text_eq)
texts_equiv = decided (pointwise text_eq) (pointwise_decides bytes_decides)
