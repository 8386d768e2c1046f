use Rattle.std.proofs.Common.{◌≡◌, ◌++◌, ◌∙◌, refl, sym, ap, subst, List, Some}
use Rattle.indexmap.specs.IndexMap.{get}
use Rattle.keys.specs.Keys.{key_eq}
use Rattle.keys.specs.Turns.{values}
use Rattle.keys.specs.declared.key.Key.{Key}
use Rattle.keys.specs.declared.value.Value.{Value}
use Rattle.engine_semantics.specs.Value.{In, first}
use Rattle.node.specs.Graphs.{record_at}
use Rattle.round_nodes.specs.Members.{AreAnswers}
use Rattle.round_nodes.specs.Nodes.{groups_of}
use Rattle.round.specs.NodeStates.{TakesOut, kept_answers}
use Rattle.round.specs.Rounds.{IsBeside, RoundView, round_view}
use Rattle.round.proofs.Handing.{ready_not_out, handed_whole, handed_keeps, handed_with, handed_more, handed_out, handed_turns, handed_true}
use Rattle.round.proofs.Pausing.{fewer_paused, out_fewer, same_fewer, handed_paused, jobs_beside}
use Rattle.round.proofs.Choosing.{ready_can, can_ready}
use Rattle.round.proofs.Following.{follows_hand}
use Rattle.round.proofs.JobsOut.{put_in, again}
use Rattle.round.proofs.Rounding.{out_added}
use Rattle.round.proofs.rounds.Round.hand_out.Goals as goal

pub add-requires : goal.add-requires
add-requires g c = λ i.
    let j = rw c.in-Some.is at c.in_ok-needed.ensures in
    ready_not_out c.args.graph.now c.args.self.now.table c.args.self.now.table c.args.key.now c.requires.0.whole j.0 (c.requires.0.all_out c.args.key.now i)

pub take_job-requires-after_bounds : goal.take_job-requires-after_bounds
take_job-requires-after_bounds g c κs within = λ w e. let same = c.in_ok-name.ensures in
    (c.requires.1 c.args.key.now w (subst (λ (k : Key). get key_eq c.args.self.now.kept k ≡ Some w) same e)).same_key ∙ sym same

pub returns-in-Ok-clause-beside : goal.returns-in-Ok-clause-beside
returns-in-Ok-clause-beside g c =
    let j = rw c.in-Some.is at c.in_ok-needed.ensures in
    let t = subst (TakesOut c.args.self.now.kept c.take_job.new.kept) c.in_ok-name.ensures c.in-Ok.ensures.taken in
    let s = c.set_out.ensures in
    let b = c.requires.0 in
    let added = put_in c.args.self.now.out c.add.new.self c.args.key.now c.in_ok-add.ensures.added in
    let ready = b.whole.ready_now c.args.key.now j.0 in (
      record {
        whole = handed_whole c.args.graph.now c.args.self.now.table c.set_out.new.table c.args.key.now b.whole j.0 s.phase s.ready s.pends;
        none_pending = s.pends ∙ b.none_pending;
        only_out = out_added c.set_out.new.table.nodes c.args.self.now.out c.add.new.self c.args.key.now c.args.key.now refl added
            (handed_more c.args.graph.now c.args.self.now.table c.set_out.new.table c.args.key.now b.whole j.0 s.phase s.ready s.pends c.args.self.now.out b.only_out);
        all_out = handed_out c.args.graph.now c.args.self.now.table c.set_out.new.table c.args.key.now b.whole j.0 s.phase s.ready s.pends c.args.self.now.out c.add.new.self added b.all_out;
        wanted = λ k i. handed_keeps c.args.graph.now c.args.self.now.table c.set_out.new.table c.args.key.now b.whole j.0 s.phase s.ready s.pends k (b.wanted k i);
      },
      handed_paused c.args.graph.now c.args.self.now.table c.set_out.new.table c.take_job.new.kept c.args.key.now ready.0 ready.1 s.phase t.0
          (fewer_paused c.args.graph.now c.args.self.now.table c.args.self.now.kept c.take_job.new.kept (out_fewer c.args.self.now.kept c.take_job.new.kept c.args.key.now t) c.requires.1),
    )

pub returns-in-Ok-clause-hands : goal.returns-in-Ok-clause-hands
returns-in-Ok-clause-hands g c =
    let j = rw c.in-Some.is at c.in_ok-needed.ensures in
    let s = c.set_out.ensures in
    let b = c.requires.0 in
    let same = c.in_ok-name.ensures in
    let all : c.in-Ok.job.answers ≡ kept_answers (get key_eq c.args.self.now.kept c.args.key.now) ++ values c.in-Some.found.items
    = c.in-Ok.ensures.answers ∙ ap (λ (k : Key). kept_answers (get key_eq c.args.self.now.kept k) ++ values c.in-Some.found.items) same in (
      j.0,
      c.in-Ok.ensures.key ∙ same,
      handed_with c.args.graph.now c.args.self.now.table c.set_out.new.table c.args.key.now b.whole j.0 s.phase s.ready s.pends c.in-Ok.job.answers
          (λ x e. subst (λ (xs : List Value). AreAnswers (record_at c.args.graph.now) (groups_of x) xs) (sym all) (j.1 x e)),
      put_in c.args.self.now.out c.add.new.self c.args.key.now c.in_ok-add.ensures.added,
      refl,
      handed_turns c.args.graph.now c.args.self.now.table c.set_out.new.table c.args.key.now b.whole j.0 s.phase s.ready s.pends s.runs,
    )

pub returns-in-Ok-clause-truth : goal.returns-in-Ok-clause-truth
returns-in-Ok-clause-truth g c = λ read.
    let j = rw c.in-Some.is at c.in_ok-needed.ensures in
    let s = c.set_out.ensures in
    handed_true c.args.graph.now c.args.self.now.table c.set_out.new.table c.args.key.now c.requires.0.whole j.0 s.phase s.ready s.pends read s.runs

pub returns-in-Ok-clause-others : goal.returns-in-Ok-clause-others
returns-in-Ok-clause-others g c = λ job o.
    let j = rw c.in-Some.is at c.in_ok-needed.ensures in
    let ready = c.requires.0.whole.ready_now c.args.key.now j.0 in
    jobs_beside c.args.graph.now c.args.self.now.table c.set_out.new.table c.args.key.now ready.0 ready.1 ready.2 c.set_out.ensures.phase job.key job.answers o

pub returns-in-Ok-clause-possible : goal.returns-in-Ok-clause-possible
returns-in-Ok-clause-possible g c = λ read.
    let j = rw c.in-Some.is at c.in_ok-needed.ensures in
    λ next laws past cs roots t. ready_can next read laws past cs c.args.graph.now (round_view c.args.self.now) c.requires.0 roots t c.args.key.now j.0

pub returns-in-Ok-clause-follows : goal.returns-in-Ok-clause-follows
returns-in-Ok-clause-follows g c =
    let j = rw c.in-Some.is at c.in_ok-needed.ensures in
    let t = subst (TakesOut c.args.self.now.kept c.take_job.new.kept) c.in_ok-name.ensures c.in-Ok.ensures.taken in
    let ready = c.requires.0.whole.ready_now c.args.key.now j.0 in
    follows_hand (round_view c.args.self.now) (record { roots = c.args.self.now.roots.items; table = c.set_out.new.table; out = c.add.new.self }) c.args.self.now.kept c.take_job.new.kept c.args.key.now ready.0 ready.1 c.set_out.ensures.phase t
    (put_in c.args.self.now.out c.add.new.self c.args.key.now c.in_ok-add.ensures.added)

pub returns-in_default-clause-possible : goal.returns-in_default-clause-possible
returns-in_default-clause-possible g c = λ read.
    let j = rw c.in_default.is at c.in_ok-needed.ensures in
    λ next laws past cs roots t h. j (can_ready next read laws past cs c.args.graph.now (round_view c.args.self.now) c.requires.0 roots t c.args.key.now h)

pub remove-requires : goal.remove-requires
remove-requires g c = subst (In c.args.key.now) (sym c.in_ok-add.ensures.added) first

pub returns-in_err-add-clause-beside : goal.returns-in_err-add-clause-beside
returns-in_err-add-clause-beside g c = (
  subst (λ (ks : List Key). IsBeside c.args.graph.now (record { roots = c.args.self.now.roots.items; table = c.args.self.now.table; out = ks })) (sym c.in_err-add.ensures.refused) c.requires.0,
  c.requires.1,
)

pub returns-in-Err-clause-beside : goal.returns-in-Err-clause-beside
returns-in-Err-clause-beside g c =
    let j = rw c.in-Some.is at c.in_ok-needed.ensures in
    let out = again c.args.self.now.out c.add.new.self c.remove.new.self c.args.key.now (λ i. ready_not_out c.args.graph.now c.args.self.now.table c.args.self.now.table c.args.key.now c.requires.0.whole j.0 (c.requires.0.all_out c.args.key.now i)) c.in_ok-add.ensures.added c.remove.ensures in (
      subst (λ (ks : List Key). IsBeside c.args.graph.now (record { roots = c.args.self.now.roots.items; table = c.args.self.now.table; out = ks })) (sym out) c.requires.0,
      fewer_paused c.args.graph.now c.args.self.now.table c.args.self.now.kept c.take_job.new.kept (same_fewer c.args.self.now.kept c.take_job.new.kept c.in-Err.ensures.refused) c.requires.1,
    )

pub returns-in-Err-clause-refused : goal.returns-in-Err-clause-refused
returns-in-Err-clause-refused g c =
    let j = rw c.in-Some.is at c.in_ok-needed.ensures in
    let out = again c.args.self.now.out c.add.new.self c.remove.new.self c.args.key.now (λ i. ready_not_out c.args.graph.now c.args.self.now.table c.args.self.now.table c.args.key.now c.requires.0.whole j.0 (c.requires.0.all_out c.args.key.now i)) c.in_ok-add.ensures.added c.remove.ensures in
    let whole : List Key → RoundView = λ ks. record { roots = c.args.self.now.roots.items; table = c.args.self.now.table; out = ks } in
    (ap whole out, c.in-Err.ensures.refused)
