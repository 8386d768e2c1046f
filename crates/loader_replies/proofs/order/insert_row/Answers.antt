use Rattle.std.proofs.Common.{◌≡◌, List, ◌∷◌, ◌∙◌, ap, sym, drop, false, arith}
use Rattle.std.specs.Ordering.{nat_cmp, is_eq}
use Rattle.std.specs.Cmp.Lexicographic.{slice_cmp}
use Rattle.serde_json.specs.Data.{no_members}
use Rattle.loader_replies.specs.Order.{name_of, onto, Passes}
use Rattle.loader_replies.specs.declared.order.Row.{Row}
use Rattle.loader_replies.proofs.Placing.{put_over, put_between, at_end, before, passes_at, tested}
use Rattle.loader_replies.proofs.order.insert_row.Goals.{else-at-len-via-then-at-len+else-is_eq, else-at-len-via-else-at-len}
use Rattle.loader_replies.proofs.order.insert_row.Goals as goal

pub returns-then-is_eq : goal.returns-then-is_eq
returns-then-is_eq c =
    let rows = c.args.rows.now.items in
    let place : Passes (name_of c.args.row) rows c.place_of-at.result = passes_at _ _ _ _ _ c.as_str.ensures.value c.as_slice.ensures.value c.place_of-at.ensures in
    put_over rows c.place_of-at.result c.args.row place c.index.result.now (omega (arith, c.if-at-len.true, c.len.ensures)) c.index.ensures
    (tested _ _ _ _ c.as_str-then-at-len.ensures.value c.as_str-then-at-len-2.ensures.value (sym (ap is_eq c.cmp.ensures) ∙ sym c.is_eq.ensures ∙ c.if-is_eq.true))

pub returns : goal.returns
returns c =
    let rows = c.args.rows.now.items in
    let at = c.place_of-at.result in
    let place : Passes (name_of c.args.row) rows at = passes_at _ _ _ _ _ c.as_str.ensures.value c.as_slice.ensures.value c.place_of-at.ensures in
    let apart : (r : Row) (more : List Row) → drop at rows ≡ r ∷ more → is_eq (slice_cmp nat_cmp (name_of c.args.row) (name_of r)) ≡ false
    = elim c.else-at-len.branch [
      | else-at-len-via-then-at-len+else-is_eq w ↦ before rows at c.args.row place w.index.result.now (omega (arith, w.if-at-len.true, c.len.ensures)) w.index.ensures
          (tested _ _ _ _ w.as_str-then-at-len.ensures.value w.as_str-then-at-len-2.ensures.value (sym (ap is_eq w.cmp.ensures) ∙ sym w.is_eq.ensures ∙ w.if-is_eq.false))
      | else-at-len-via-else-at-len w ↦ at_end rows at c.args.row place (omega (arith, w.if-at-len.false, c.len.ensures))
    ] in
    ap (λ rs. onto rs no_members) c.in_ok-insert.ensures.items ∙ put_between rows at c.args.row place apart
