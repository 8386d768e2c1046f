-- A key has one value at most, and its turns ask one list of groups.
use Rattle.std.proofs.Common.{◌≡◌, List, Option, refl}
use Rattle.engine_semantics.specs.Reply.{Reply}
use Rattle.engine_semantics.specs.Value.{Grounded, is_leaf, has_run, Turns, ends, asks, AllGrounded, none, one}

module _ {K V : Type 0} (next : K → List V → Reply K V) (read : K → Option V) where
  mutual
    pub same_value : {k l : K} {v w : V} → Grounded next read k v → Grounded next read l w → k ≡ l → v ≡ w
    same_value (is_leaf e) (is_leaf f) h = cc
    same_value (is_leaf e) (has_run f u) h = cc
    same_value (has_run e t) (is_leaf f) h = cc
    same_value (has_run e t) (has_run f u) h = (same_turns t u h refl).1

    pub same_turns : {k l : K} {a b : List V} {gs hs : List (List K)} {v w : V} → Turns next read k a gs v → Turns next read l b hs w → k ≡ l → a ≡ b → (gs ≡ hs) × (v ≡ w)
    same_turns (ends e) (ends f) h i = (refl, cc)
    same_turns (ends e) (asks f g u) h i = cc
    same_turns (asks e g t) (ends f) h i = cc
    same_turns (asks {group = xs} e g t) (asks {group = ys} f g' u) h i =
        let j : xs ≡ ys = cc in
        let s = same_values g g' j in
        let r = same_turns t u h (cc) in
        (cc, r.1)

    pub same_values : {ks ls : List K} {vs ws : List V} → AllGrounded next read ks vs → AllGrounded next read ls ws → ks ≡ ls → vs ≡ ws
    same_values none none h = refl
    same_values none (one e g) h = cc
    same_values (one e g) none h = cc
    same_values (one {k = k} {keys = ks} e g) (one {k = l} {keys = ls} f g') h =
        let i : k ≡ l = cc in
        let j : ks ≡ ls = cc in
        let p = same_value e f i in
        let q = same_values g g' j in
        cc
