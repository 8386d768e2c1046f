-- Laws of replies and of what serving writes.
use Rattle.std.specs.Prelude.{◌≡◌, ℕ, ◌<◌, List, [], ◌++◌}
use Rattle.round_nodes.specs.declared.run.Run.{Run}
use Rattle.serde_json.specs.Data.{Data}
use Rattle.loader_answers.specs.State.{State}
use Rattle.loader_answers.specs.Answers.{IsAnswer, AreAnswers}
use Rattle.loader.specs.Service.{IsBeginning, Served, Stopped}

-- a line has at most one reply from each state
abbrev pub OneAnswer : Type 0
OneAnswer = (line : List ℕ) (s : State) (d e : Data) → IsAnswer line s d → IsAnswer line s e → d ≡ e

-- lines have at most one list of replies
abbrev pub OneAnswerEach : Type 0
OneAnswerEach = (s : State) (lines : List (List ℕ)) (ds es : List Data) → AreAnswers s lines ds → AreAnswers s lines es → ds ≡ es

-- a line has at least one reply from each state
abbrev pub SomeAnswer : Type 0
SomeAnswer = (line : List ℕ) (s : State) → (d : Data) × IsAnswer line s d

-- lines have at least one list of replies
abbrev pub SomeAnswerEach : Type 0
SomeAnswerEach = (s : State) (lines : List (List ℕ)) → (ds : List Data) × AreAnswers s lines ds

-- two servings of one input wrote the same, whatever their budgets are, and whatever was read and written before
abbrev pub OneOutput : Type 0
OneOutput = (budget budget' : ℕ) (input told told' written written' held held' : List ℕ) (runs runs' : List Run)
    → Served budget told (told ++ input) held (held ++ written) runs → Served budget' told' (told' ++ input) held' (held' ++ written') runs' → written ≡ written'

-- What a serving that stopped wrote is a beginning of what the serving of a longer input writes. If the device had
-- reported its end, that is the input itself.
abbrev pub StopsInOutput : Type 0
StopsInOutput = (budget ends ends' : ℕ) (input more told told' written written' held held' : List ℕ) (runs : List Run) → (ends < ends' → more ≡ [])
    → Stopped ends ends' told (told ++ input) held (held ++ written) → Served budget told' (told' ++ (input ++ more)) held' (held' ++ written') runs → IsBeginning written written'
