-- Each order of looks is at each place once.
use Rattle.std.proofs.Common.{◌≡◌, ◌≢◌, ℕ, ◌+◌, ◌-◌, ◌<◌, ◌≤◌, cond, eqb, leb, ⊎_elim, refl, sym, ◌∙◌, arith}
use Rattle.std.proofs.lemmas.Bool.{cases_lt, cases_eq, cond_below, cond_above, cond-true, cond-false, le-leb, lt-leb, eq-eqb, ne_eqb}
use Rattle.board.specs.Orders.{hand_order, host_order, IsEachOnce}

hand_before : (n home k : ℕ) → k < n - home → hand_order n home k ≡ home + k
hand_before n home k low = sym (cond_below k (n - home) (home + k) (k - (n - home)) low)

hand_after : (n home k : ℕ) → n - home ≤ k → hand_order n home k ≡ k - (n - home)
hand_after n home k high = sym (cond_above k (n - home) (home + k) (k - (n - home)) (k - (n - home)) high refl)

pub hand_each : (n home : ℕ) → IsEachOnce n (hand_order n home)
hand_each n home p here = ⊎_elim
    (λ before. let at = hand_after n home (p + (n - home)) (omega arith) in (
      p + (n - home),
      omega (arith, before, here),
      omega (arith, at),
      λ j low same. ⊎_elim
          (λ d. let e = hand_before n home j d in omega (arith, e, same, before))
          (λ d. let e = hand_after n home j d in omega (arith, e, same, d))
          (cases_lt j (n - home)),
    ))
    (λ after. let at = hand_before n home (p - home) (omega (arith, after, here)) in (
      p - home,
      omega (arith, here),
      omega (arith, at, after),
      λ j low same. ⊎_elim
          (λ d. let e = hand_before n home j d in omega (arith, e, same))
          (λ d. let e = hand_after n home j d in omega (arith, e, same, low, after, here))
          (cases_lt j (n - home)),
    ))
    (cases_lt p home)

-- what the host looks at where it has cleared one of the places
within : (n cleared k : ℕ) → cleared < n → host_order n cleared k ≡ cond (eqb k 0) cleared (cond (leb k cleared) (k - 1) k)
within n cleared k near = cond-false (leb n cleared) k (cond (eqb k 0) cleared (cond (leb k cleared) (k - 1) k)) (lt-leb n cleared near)

host_first : (n cleared k : ℕ) → cleared < n → k ≡ 0 → host_order n cleared k ≡ cleared
host_first n cleared k near none = within n cleared k near ∙ cond-true (eqb k 0) cleared (cond (leb k cleared) (k - 1) k) (eq-eqb k 0 none)

host_before : (n cleared k : ℕ) → cleared < n → k ≢ 0 → k ≤ cleared → host_order n cleared k ≡ k - 1
host_before n cleared k near some low = within n cleared k near ∙ (cond-false (eqb k 0) cleared (cond (leb k cleared) (k - 1) k) (ne_eqb k 0 some) ∙ cond-true (leb k cleared) (k - 1) k (le-leb k cleared low))

host_after : (n cleared k : ℕ) → cleared < n → cleared < k → host_order n cleared k ≡ k
host_after n cleared k near high =
    within n cleared k near ∙ (cond-false (eqb k 0) cleared (cond (leb k cleared) (k - 1) k) (ne_eqb k 0 (λ e. omega (arith, e, high))) ∙ cond-false (leb k cleared) (k - 1) k (lt-leb k cleared high))

-- where a look of the host is, by cases
host_look : (n cleared j : ℕ) {X : Type 0} → cleared < n → (j ≡ 0 → host_order n cleared j ≡ cleared → X) → (j ≢ 0 → j ≤ cleared → host_order n cleared j ≡ j - 1 → X) → (cleared < j → host_order n cleared j ≡ j → X) → X
host_look n cleared j near f g h = ⊎_elim
    (λ none. f none (host_first n cleared j near none))
    (λ some. ⊎_elim (λ high. h high (host_after n cleared j near high)) (λ low. g some low (host_before n cleared j near some low)) (cases_lt cleared j))
    (cases_eq j 0)

host_each_within : (n cleared : ℕ) → cleared < n → IsEachOnce n (host_order n cleared)
host_each_within n cleared near p here = ⊎_elim
    (λ same. (
      0,
      omega (arith, near),
      host_first n cleared 0 near refl ∙ sym same,
      λ j low is. host_look n cleared j near
          (λ none at. none)
          (λ some d at. omega (arith, some, d, at, is, same))
          (λ d at. omega (arith, d, at, is, same)),
    ))
    (λ other. ⊎_elim
    (λ before. let at = host_before n cleared (p + 1) near (λ e. omega (arith, e)) (omega (arith, before)) in (
      p + 1,
      omega (arith, before, near),
      omega (arith, at),
      λ j low is. host_look n cleared j near
          (λ none e. omega (arith, e, is, before))
          (λ some d e. omega (arith, some, e, is))
          (λ d e. omega (arith, d, e, is, before)),
    ))
    (λ after. let at = host_after n cleared p near (omega (arith, after, other)) in (
      p,
      here,
      at,
      λ j low is. host_look n cleared j near
          (λ none e. absurd (other (sym is ∙ e)))
          (λ some d e. omega (arith, d, e, is, after, some))
          (λ d e. sym e ∙ is),
    ))
    (cases_lt p cleared))
    (cases_eq p cleared)

host_plain : (n cleared k : ℕ) → n ≤ cleared → host_order n cleared k ≡ k
host_plain n cleared k high = cond-true (leb n cleared) k (cond (eqb k 0) cleared (cond (leb k cleared) (k - 1) k)) (le-leb n cleared high)

pub host_each : (n cleared : ℕ) → IsEachOnce n (host_order n cleared)
host_each n cleared p here = ⊎_elim
    (λ near. host_each_within n cleared near p here)
    (λ high. (p, here, host_plain n cleared p high, λ j low is. sym (host_plain n cleared j high) ∙ is))
    (cases_lt cleared n)
