use Rattle.std.proofs.Common.{sym, subst}
use Rattle.evaluator_state.specs.View.{world_of, here_of}
use Rattle.evaluator_state.specs.AimView.{aim_of}
use Rattle.evaluator_frames.specs.declared.frame.Control.{Control}
use Rattle.evaluator_frames.specs.declared.frame.Frame.{Frame}
use Rattle.evaluator_frames.specs.Frames.{an_aim, Goes, on, frame_does, frame_line, above, machine_does}
use Rattle.evaluator_frames.proofs.Clauses.{went}
use Rattle.evaluator_frames.proofs.deliver.deliver_aim.Goals as goal

pub returns-in-Aims-clause-goes : goal.returns-in-Aims-clause-goes
returns-in-Aims-clause-goes c = λ env n running.
    let here = here_of c.args.at.now c.args.at.now.line running in
    let w = world_of c.args.state.now in
    let frames = c.args.frames.now.items in
    let after = λ (control : Control). machine_does env n here control frames (world_of c.args.state.now) in
    subst (λ (fr : Frame). Goes (on env n here (frame_line c.args.at.now.line fr)).site (above env n here (frame_does env n here fr (an_aim (aim_of c.args.aim))) frames w) c.aim_done.result after) (sym c.in-Aims.is) (went c.aim_done.result _ _ after _ (λ control q. q env n here frames w) c.aim_done.ensures.ok c.aim_done.ensures.err)

pub returns-in-Store-clause-goes : goal.returns-in-Store-clause-goes
returns-in-Store-clause-goes c = λ env n running.
    let here = here_of c.args.at.now c.args.at.now.line running in
    let w = world_of c.args.state.now in
    let frames = c.args.frames.now.items in
    let after = λ (control : Control). machine_does env n here control frames (world_of c.store_value.new.state) in
    subst (λ (fr : Frame). Goes (on env n here (frame_line c.args.at.now.line fr)).site (above env n here (frame_does env n here fr (an_aim (aim_of c.args.aim))) frames w) c.store_value.result after) (sym c.in-Store.is) (c.store_value.ensures.goes env n running frames)

pub returns-in-Augment-clause-goes : goal.returns-in-Augment-clause-goes
returns-in-Augment-clause-goes c = λ env n running.
    let here = here_of c.args.at.now c.args.at.now.line running in
    let w = world_of c.args.state.now in
    let frames = c.args.frames.now.items in
    let after = λ (control : Control). machine_does env n here control c.augment.new.frames.items (world_of c.augment.new.state) in
    subst (λ (fr : Frame). Goes (on env n here (frame_line c.args.at.now.line fr)).site (above env n here (frame_does env n here fr (an_aim (aim_of c.args.aim))) frames w) c.augment.result after) (sym c.in-Augment.is) (c.augment.ensures.goes env n running)

pub returns-in-Turn-clause-goes : goal.returns-in-Turn-clause-goes
returns-in-Turn-clause-goes c = λ env n running.
    let here = here_of c.args.at.now c.args.at.now.line running in
    let w = world_of c.args.state.now in
    let frames = c.args.frames.now.items in
    let after = λ (control : Control). machine_does env n here control c.begin_body.new.frames.items (world_of c.begin_body.new.state) in
    subst (λ (fr : Frame). Goes (on env n here (frame_line c.args.at.now.line fr)).site (above env n here (frame_does env n here fr (an_aim (aim_of c.args.aim))) frames w) c.begin_body.result after) (sym c.in-Turn.is) (c.begin_body.ensures.goes env n running)

pub returns-in-Aimed-clause-goes : goal.returns-in-Aimed-clause-goes
returns-in-Aimed-clause-goes c = λ env n running.
    let here = here_of c.args.at.now c.args.at.now.line running in
    let w = world_of c.args.state.now in
    let frames = c.args.frames.now.items in
    let after = λ (control : Control). machine_does env n here control c.begin_clause.new.frames.items (world_of c.begin_clause.new.state) in
    subst (λ (fr : Frame). Goes (on env n here (frame_line c.args.at.now.line fr)).site (above env n here (frame_does env n here fr (an_aim (aim_of c.args.aim))) frames w) c.begin_clause.result after) (sym c.in-Aimed.is) (c.begin_clause.ensures.goes env n running)
