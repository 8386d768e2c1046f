-- What serving did, in the words of the standard library.
use Rattle.std.proofs.Common.{◌≡◌, ◌∙◌, ap, sym, subst, refl, ℕ, ◌<◌, List, [], ◌++◌, Some, None, IfSome, OnSome, append-nil}
use Rattle.std.specs.Prelude.{Option}
use Rattle.std.specs.Io.KnownBytes.{Appends, Consumes, IsAtEnd, Keeps}
use Rattle.base_lines.specs.Devices.{EndsWithNothing}
use Rattle.base_lines.specs.Lines.{lines_of}
use Rattle.loader_answers.specs.State.{start}
use Rattle.loader.specs.Service.{Stopped}
use Rattle.loader.specs.Programs.{AnswersPart}
use Rattle.loader.proofs.OneAnswers.{stop_begins}
use Rattle.loader.proofs.SomeAnswers.{some_answer_each}

-- what a reader has left is an end of what it had; where its bytes are not known, nothing is said of it
rest_told : (n : ℕ) (unread left : Option (List ℕ)) (told : List ℕ) → Consumes unread left told → EndsWithNothing n unread left
    → (rest : List ℕ) × IfSome unread (λ bytes. bytes ≡ told ++ rest) × OnSome unread ((read : List ℕ) × (later : List ℕ) × (told ++ rest ≡ read ++ later) × (left ≡ Some later)) × (0 < n → rest ≡ [])
rest_told n None left told consumed ended = ([], tt, tt, λ e. refl)
rest_told n (Some xs) None told consumed ended = absurd consumed
rest_told n (Some xs) (Some ys) told consumed ended = (ys, consumed, (told, ys, refl, refl), ended)

-- a writer has what it had, followed by what was written
all_written : (held holds : Option (List ℕ)) (written : List ℕ) → Appends held holds written → IfSome held (λ bytes. holds ≡ Some (bytes ++ written))
all_written None holds written appended = tt
all_written (Some xs) None written appended = absurd appended
all_written (Some xs) (Some ys) written appended = ap Some appended

module _ (unread left held holds : Option (List ℕ)) (T told H written : List ℕ) (ends ends' : ℕ)
    (begun : T ≡ []) (empty : H ≡ []) (none : ends ≡ 0)
    (consumed : Consumes unread left told) (ended : EndsWithNothing ends' unread left) (appended : Appends held holds written) where
  pub answers_part : Stopped ends ends' T told H written → AnswersPart unread left held holds
  answers_part stopped =
      let rest = rest_told ends' unread left told consumed ended in
      let all = some_answer_each start (lines_of (told ++ rest.0)) in
      let s : Stopped ends ends' [] told [] written = subst (λ h. Stopped ends ends' [] told h written) empty (subst (λ t. Stopped ends ends' t told H written) begun stopped) in
      record {
        input = told ++ rest.0;
        answers = all.0;
        written = written;
        input_is = rest.1;
        end_left = rest.2;
        are = all.1;
        begins = stop_begins ends ends' told rest.0 [] written [] (λ more. rest.3 (subst (λ n. n < ends') none more)) s all.0 all.1;
        output_is = all_written held holds written appended;
      }
