-- What a round opens, runs and has settled is the least that its rules allow, and grows with the choices.
use Rattle.std.proofs.Common.{◌≡◌, suc, true, false, List, [], ◌∷◌, ◌++◌, length, Option, Some, None}
use Rattle.engine_semantics.specs.Reply.{Reply, Ask, Done}
use Rattle.engine_semantics.specs.Value.{In}
use Rattle.engine_semantics.specs.Graph.{Record}
use Rattle.engine_semantics.specs.Choices.{Choice, Backs, other, Comes, Changed, Unchanged, Wanted, root, member, Asked, by_check, by_turn, Checks, begins, passes, Runs, is_new, differs, Settled, leaf, clean, checked, ended}

module _ {K V : Type 0} (next : K → List V → Reply K V) (cycle : List K → V) (read : K → Option V) (records : K → Option (Record K V)) (roots : List K) where
  -- keys said to be opened, to be checked that far, to run and to be settled, that keep the rules
  pub record Keeping (choices : List (Choice K)) (W : K → Type 0) (C : K → Record K V → List (List K) → List (List K) → Type 0) (R S : K → Type 0) : Type 0 where
    pub roots_wanted : (k : K) → In k roots → W k
    pub check_wants : (j : K) (r : Record K V) (passed rest : List (List K)) (group : List K) → C j r passed (group ∷ rest) → (k : K) → In k group → W k
    pub turn_wants : (j : K) (groups : List (List K)) (answers : List V) (group : List K) → R j → Comes next cycle read j [] groups answers → Backs j (suc (length groups)) choices → next j answers ≡ Ask group → (k : K) → In k group → W k
    pub check_begins : (k : K) (r : Record K V) → W k → read k ≡ None → records k ≡ Some r → r.dirty ≡ true → C k r [] r.groups
    pub check_passes : (k : K) (r : Record K V) (passed rest : List (List K)) (group : List K) → C k r passed (group ∷ rest) → ((j : K) → In j group → S j) → ((j : K) → In j group → Unchanged next cycle read records r.settled_at j) → C k r (passed ++ group ∷ []) rest
    pub new_runs : (k : K) → W k → read k ≡ None → records k ≡ None → R k
    pub changed_runs : (k j : K) (r : Record K V) (passed rest : List (List K)) (group : List K) → C k r passed (group ∷ rest) → ((i : K) → In i group → S i) → In j group → Changed next cycle read records r.settled_at j → R k
    pub leaf_settled : (k : K) (v : V) → W k → read k ≡ Some v → S k
    pub clean_settled : (k : K) (r : Record K V) → W k → records k ≡ Some r → r.dirty ≡ false → S k
    pub check_settled : (k : K) (r : Record K V) (passed : List (List K)) → C k r passed [] → S k
    pub end_settled : (k : K) (groups : List (List K)) (answers : List V) (v : V) → R k → Comes next cycle read k [] groups answers → Backs k (suc (length groups)) choices → next k answers ≡ Done v → S k

  module _ (choices : List (Choice K)) (W : K → Type 0) (C : K → Record K V → List (List K) → List (List K) → Type 0) (R S : K → Type 0) (law : Keeping choices W C R S) where
    mutual
      pub least_wanted : {k : K} → Wanted next cycle read records roots choices k → W k
      least_wanted {k = k} (root m) = law.roots_wanted k m
      least_wanted {k = k} (member a m) = least_asked a k m

      pub least_asked : {j : K} {group : List K} → Asked next cycle read records roots choices j group → (k : K) → In k group → W k
      least_asked {j = j} {group = g} (by_check {r = r} {passed = p} {rest = q} c) = law.check_wants j r p q g (least_checks c)
      least_asked {j = j} {group = g} (by_turn {groups = p} {answers = a} r c b e) = law.turn_wants j p a g (least_runs r) c b e

      pub least_checks : {k : K} {r : Record K V} {p q : List (List K)} → Checks next cycle read records roots choices k r p q → C k r p q
      least_checks {k = k} {r = r} (begins w n e d) = law.check_begins k r (least_wanted w) n e d
      least_checks {k = k} {r = r} (passes {passed = p} {rest = q} {group = g} c s u) = law.check_passes k r p q g (least_checks c) (λ j m. least_settled (s j m)) u

      pub least_runs : {k : K} → Runs next cycle read records roots choices k → R k
      least_runs {k = k} (is_new w n e) = law.new_runs k (least_wanted w) n e
      least_runs {k = k} (differs {j = j} {r = r} {passed = p} {rest = q} {group = g} c s m h) = law.changed_runs k j r p q g (least_checks c) (λ i n. least_settled (s i n)) m h

      pub least_settled : {k : K} → Settled next cycle read records roots choices k → S k
      least_settled {k = k} (leaf {v = v} w e) = law.leaf_settled k v (least_wanted w) e
      least_settled {k = k} (clean {r = r} w e d) = law.clean_settled k r (least_wanted w) e d
      least_settled {k = k} (checked {r = r} {passed = p} c) = law.check_settled k r p (least_checks c)
      least_settled {k = k} (ended {groups = p} {answers = a} {v = v} r c b e) = law.end_settled k p a v (least_runs r) c b e

  -- one more choice takes nothing back
  module _ (choices : List (Choice K)) (c : Choice K) where
    grows : Keeping choices (Wanted next cycle read records roots (c ∷ choices)) (Checks next cycle read records roots (c ∷ choices)) (Runs next cycle read records roots (c ∷ choices)) (Settled next cycle read records roots (c ∷ choices))
    grows = record {
      roots_wanted = λ k m. root m;
      check_wants = λ j r p q g h k m. member (by_check h) m;
      turn_wants = λ j p a g r h b e k m. member (by_turn r h (other b) e) m;
      check_begins = λ k r w n e d. begins w n e d;
      check_passes = λ k r p q g h s u. passes h s u;
      new_runs = λ k w n e. is_new w n e;
      changed_runs = λ k j r p q g h s m d. differs h s m d;
      leaf_settled = λ k v w e. leaf w e;
      clean_settled = λ k r w e d. clean w e d;
      check_settled = λ k r p h. checked h;
      end_settled = λ k p a v r h b e. ended r h (other b) e;
    }

    pub wanted_on : {k : K} → Wanted next cycle read records roots choices k → Wanted next cycle read records roots (c ∷ choices) k
    wanted_on w = least_wanted choices _ _ _ _ grows w

    pub checks_on : {k : K} {r : Record K V} {p q : List (List K)} → Checks next cycle read records roots choices k r p q → Checks next cycle read records roots (c ∷ choices) k r p q
    checks_on h = least_checks choices _ _ _ _ grows h

    pub runs_on : {k : K} → Runs next cycle read records roots choices k → Runs next cycle read records roots (c ∷ choices) k
    runs_on r = least_runs choices _ _ _ _ grows r

    pub settled_on : {k : K} → Settled next cycle read records roots choices k → Settled next cycle read records roots (c ∷ choices) k
    settled_on s = least_settled choices _ _ _ _ grows s
