-- A printed string, by what was kept of its text.
use Rattle.std.proofs.Common.{◌≡◌, ℕ, List, [], length, Bool, true, false, cond, Option, Some, None, refl, sym, ap, ◌∙◌}
use Rattle.values_semantics.specs.declared.val.Val.{Val}
use Rattle.values_semantics.specs.Outcome.{Out, gives, faults, and_then}
use Rattle.values_semantics.specs.Heap.{Store, is_sized, walk_done, makes_text}
use Rattle.values_semantics.specs.Printing.{print, repr}
use Rattle.values_builtins.specs.declared.text_buffer.TextBuffer.{TextBuffer}
use Rattle.values_builtins.specs.TextBuffers.{keep, text_so_far, more, text_after}
use Rattle.values_builtins.proofs.TextBufferLaws.{kept_alike}

module _ (s : Store) (t : ℕ) where
  told_text : (out : Out ℕ (List ℕ)) (p : Option (List ℕ)) → and_then out (λ part. gives (more (Some []) part)) ≡ gives p t → (text : List ℕ) × ((p ≡ keep text) × (out ≡ gives text t))
  unfolding more
  told_text (faults c) p h = cc
  told_text (gives text u) p h = (text, (cc, cc))

  sized_not : (text : List ℕ) (b : Bool) → is_sized (length text) ≡ b → None ≡ cond b (Some text) None → makes_text text (record s { steps = t }) ≡ faults 13
  sized_not text true e h = cc
  sized_not text false e h = rw e refl

  module _ (x : Val) (o p : Option (List ℕ)) (begun : o ≡ Some []) (said : text_after (print 64 s.heap x) s.steps o ≡ gives p t) where
    found : (text : List ℕ) × ((p ≡ keep text) × (print 64 s.heap x s.steps ≡ gives text t))
    found = told_text (print 64 s.heap x s.steps) p (rw begun at said)

    whole : repr x s ≡ makes_text found.0 (record s { steps = t })
    whole = ap (λ out. and_then (walk_done s out) makes_text) found.1.1

    pub repr_long : p ≡ None → repr x s ≡ faults 13
    repr_long h = whole ∙ sized_not found.0 (is_sized (length found.0)) refl (sym h ∙ found.1.0)

    pub repr_kept : (bytes : List ℕ) → p ≡ keep bytes → repr x s ≡ makes_text bytes (record s { steps = t })
    repr_kept bytes h = whole ∙ ap (λ m. m (record s { steps = t })) (kept_alike found.0 bytes (sym found.1.0 ∙ h))

pub long_kept : (w : TextBuffer) → w.long ≡ true → text_so_far w ≡ None
unfolding text_so_far
long_kept w h = rw h refl

pub short_kept : (w : TextBuffer) → w.long ≡ false → text_so_far w ≡ keep w.bytes.items
unfolding text_so_far
short_kept w h = rw h refl
