-- Reading a line.
use Rattle.std.proofs.Common.{◌≡◌, ap, sym, ℕ, suc, List, [], ◌∷◌, length, true, false, cond, Some, None, refl}
use Rattle.std.specs.Prelude.{String, IsUtf8}
use Rattle.std.specs.Str.{is_utf8}
use Rattle.std.proofs.lemmas.Str.{is_utf8-from_IsUtf8, IsUtf8-from_is_utf8}
use Rattle.std.specs.declared.alloc.Global.{Global}
use Rattle.serde_json.specs.Data.{Data, null, boolean, number, string, array, object, Members}
use Rattle.serde_json.specs.Read.{read}
use Rattle.serde_json.specs.Find.{as_object}
use Rattle.serde_json.specs.View.{members_view}
use Rattle.serde_json.specs.declared.value.Value.{Value}
use Rattle.loader_commands.specs.Commands.{data_of, member_count, members_count}

pub read_valid : (line : List ℕ) (d : Data) → IsUtf8 line → read line ≡ Some d → Some d ≡ data_of line
read_valid line d u r = let e = is_utf8-from_IsUtf8 line u in rw e (sym r)

pub read_none : (line : List ℕ) → (IsUtf8 line → read line ≡ None) → None ≡ data_of line
read_none line h = elim (is_utf8 line) as (λ b. is_utf8 line ≡ b → None ≡ cond b (read line) None) [ true ↦ λ e. sym (h (IsUtf8-from_is_utf8 line e)) | false ↦ λ e. refl ] refl

pub count_some : (d : Data) (ms : Members) → Some ms ≡ as_object d → members_count ms ≡ member_count d
count_some null ms h = absurd cc
count_some (boolean b) ms h = absurd cc
count_some (number n) ms h = absurd cc
count_some (string s) ms h = absurd cc
count_some (array ds) ms h = absurd cc
count_some (object m) ms h = let e : ms ≡ m = cc in ap members_count e

pub count_view : (es : List (String Global × Value)) → length es ≡ members_count (members_view es)
count_view [] = refl
count_view (e ∷ es) = ap suc (count_view es)
