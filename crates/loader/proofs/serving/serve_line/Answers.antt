use Rattle.std.proofs.Common.{◌≡◌, ◌∙◌, ap, sym, subst, ℕ, List, ◌++◌, length, false, not, ◌&&◌, take}
use Rattle.round_nodes.specs.declared.run.Run.{Run}
use Rattle.loader.specs.Service.{Stopped, Between, After}
use Rattle.loader.proofs.Steps.{stopped_before, stopped_within, served_at_end, after_line, on_err}
use Rattle.std.specs.Prelude.{◌==◌}
use Rattle.loader.proofs.serving.serve_line.Goals as goal

pub returns-in_err-ended-clause-err : goal.returns-in_err-ended-clause-err
returns-in_err-ended-clause-err g c =
    let k : (told held : List ℕ) → Between c.args.budget told (g.R.Input.told c.args.reader.now) held (g.W.Output.held c.args.writer.now) c.args.serving.now.pending c.args.serving.now.session (g.J.Runs.kept c.args.journal.now)
    → Stopped (g.R.Input.ends c.args.reader.now) (g.R.Input.ends c.next_line.new.input) told (g.R.Input.told c.next_line.new.input) held (g.W.Output.held c.args.writer.now) = λ told held b. let f = c.in_err-ended.ensures.err in stopped_before b _ _ _ f.0 f.1 in
    on_err _ k

pub returns-in_err-text-clause-err : goal.returns-in_err-text-clause-err
returns-in_err-text-clause-err g c =
    let k : (told held : List ℕ) → Between c.args.budget told (g.R.Input.told c.args.reader.now) held (g.W.Output.held c.args.writer.now) c.args.serving.now.pending c.args.serving.now.session (g.J.Runs.kept c.args.journal.now)
    → Stopped (g.R.Input.ends c.args.reader.now) (g.R.Input.ends c.next_line.new.input) told (g.R.Input.told c.next_line.new.input) held (g.W.Output.held c.args.writer.now) = λ told held b. let t = c.in_ok-ended.ensures.took in stopped_before b _ _ _ t.fresh t.told in
    on_err _ k

pub returns-in_err-write-clause-err : goal.returns-in_err-write-clause-err
returns-in_err-write-clause-err g c =
    let k : (told held : List ℕ) → Between c.args.budget told (g.R.Input.told c.args.reader.now) held (g.W.Output.held c.args.writer.now) c.args.serving.now.pending c.args.serving.now.session (g.J.Runs.kept c.args.journal.now)
    → Stopped (g.R.Input.ends c.args.reader.now) (g.R.Input.ends c.next_line.new.input) told (g.R.Input.told c.next_line.new.input) held (g.W.Output.held c.write.new.self) = λ told held b.
    let t = c.in_ok-ended.ensures.took in
    let no : (not c.in_ok-ended.ended && (length t.line == 0)) ≡ false = sym (c.is_end.ensures t.line t.keeps) ∙ c.if-is_end.false in
    let added = c.in_ok-text.ensures.answer t.line t.keeps in
    let a = added.3 in
    let e = c.in_err-write.ensures.err in
    stopped_within b _ _ c.in_ok-ended.ended t no c.in_ok-ended.ensures.ended (g.W.Output.held c.write.new.self) e.0 a.told.0 a.told.1
    (e.1 ∙ ap (λ r. g.W.Output.held c.args.writer.now ++ take e.0 r) (c.as_bytes.ensures.value ∙ a.told.2)) in
    on_err _ k

pub returns-clause-ok : goal.returns-clause-ok
returns-clause-ok g c = λ told held b.
    let t = c.in_ok-ended.ensures.took in
    let no : (not c.in_ok-ended.ended && (length t.line == 0)) ≡ false = sym (c.is_end.ensures t.line t.keeps) ∙ c.if-is_end.false in
    let added = c.in_ok-text.ensures.answer t.line t.keeps in
    let a = added.3 in
    subst (λ (xs : List Run). After c.args.budget c.in_ok-ended.ended told (g.R.Input.told c.next_line.new.input) held (g.W.Output.held c.write.new.self) c.next_line.new.pending c.reply_to_line.new.session xs) (sym added.1)
    (after_line b c.in_ok-ended.ended t no (g.W.Output.held c.write.new.self) c.reply_to_line.new.session added.0 a.told.0 a.told.1
    (c.in_ok-write.ensures.held ∙ ap (λ r. g.W.Output.held c.args.writer.now ++ r) (c.as_bytes.ensures.value ∙ a.told.2)) a.state
    c.reply_to_line.ensures.lawful a.moves added.2)

pub returns-then-is_end-clause-ok : goal.returns-then-is_end-clause-ok
returns-then-is_end-clause-ok g c = λ told held b.
    let t = c.in_ok-ended.ensures.took in
    served_at_end b c.in_ok-ended.ended t (sym (c.is_end.ensures t.line t.keeps) ∙ c.if-is_end.true)
