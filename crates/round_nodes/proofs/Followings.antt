-- What is true of a node stays true after further choices, and where further keys are settled.
use Rattle.std.proofs.Common.{◌≡◌, inl, inr, suc, List, ◌∷◌, Option, sym, ◌∙◌}
use Rattle.engine_semantics.specs.Reply.{Reply}
use Rattle.engine_semantics.specs.Graph.{Record}
use Rattle.engine_semantics.specs.Choices.{Choice, Wanted, Checks, Runs, Settled}
use Rattle.engine_semantics.specs.States.{HasBacks}
use Rattle.engine_semantics.proofs.Least.{wanted_on, checks_on, runs_on, settled_on}
use Rattle.engine_semantics.proofs.Moves.{TellsAlike}
use Rattle.keys.specs.Cycles.{cycle}
use Rattle.keys.specs.declared.key.Key.{Key}
use Rattle.keys.specs.declared.value.Value.{Value}
use Rattle.node.specs.Graphs.{GraphView, record_at}
use Rattle.round_nodes.specs.Nodes.{groups_of, IsClean}
use Rattle.round_nodes.specs.Invariants.{Past, AreUnchanged, HasBegun, IsDoing, TellOut, IsOpenTruly, HasEnded, by_read, by_check, by_turns, IsSettledTruly, IsUntold}
use Rattle.round_nodes.specs.declared.table.Node.{Node}
use Rattle.round_nodes.specs.declared.table.Phase.{Phase}
use Rattle.round_nodes.specs.declared.table.Phase.TheVariants as phase

module _ (next : Key → List Value → Reply Key Value) (read : Key → Option Value) (past : Past read) where
  -- what is opened, checked, run and settled by some choices is so by others
  pub record Grows (cs ds : List (Choice Key)) : Type 0 where
    pub wanted : (k : Key) → Wanted next cycle read (record_at past.entry) past.roots cs k → Wanted next cycle read (record_at past.entry) past.roots ds k
    pub checks : (k : Key) (r : Record Key Value) (p q : List (List Key)) → Checks next cycle read (record_at past.entry) past.roots cs k r p q → Checks next cycle read (record_at past.entry) past.roots ds k r p q
    pub runs : (k : Key) → Runs next cycle read (record_at past.entry) past.roots cs k → Runs next cycle read (record_at past.entry) past.roots ds k
    pub settled : (k : Key) → Settled next cycle read (record_at past.entry) past.roots cs k → Settled next cycle read (record_at past.entry) past.roots ds k

  pub grows_none : (cs : List (Choice Key)) → Grows cs cs
  grows_none cs = record { wanted = λ k w. w; checks = λ k r p q c. c; runs = λ k r. r; settled = λ k s. s }

  pub grows_one : (c : Choice Key) (cs : List (Choice Key)) → Grows cs (c ∷ cs)
  grows_one c cs = record {
    wanted = λ k w. wanted_on next cycle read (record_at past.entry) past.roots cs c w;
    checks = λ k r p q h. checks_on next cycle read (record_at past.entry) past.roots cs c h;
    runs = λ k r. runs_on next cycle read (record_at past.entry) past.roots cs c r;
    settled = λ k s. settled_on next cycle read (record_at past.entry) past.roots cs c s;
  }

  module _ (graph new : GraphView) (clean_still : (j : Key) → IsClean (record_at graph) j → IsClean (record_at new) j) where
    pub unchanged_on : {u : _} {gs : List (List Key)} → AreUnchanged next read past graph u gs → AreUnchanged next read past new u gs
    unchanged_on h = λ j m. (clean_still j (h j m).0, (h j m).1)

    pub begun_on : (k : Key) → HasBegun next read past graph k → HasBegun next read past new k
    begun_on k (inl e) = inl e
    begun_on k (inr h) = let s = h.3 in inr (
      h.0,
      h.1,
      h.2,
      record {
        passed = s.passed;
        group = s.group;
        rest = s.rest;
        split = s.split;
        unchanged = unchanged_on s.unchanged;
        settled = λ j i. clean_still j (s.settled j i);
        member = s.member;
        among = s.among;
        changed = s.changed;
      },
    )

    module _ (cs ds : List (Choice Key)) (g : Grows cs ds) (k : Key) (alike : TellsAlike k cs ds) where
      backs_on : {n : _} → HasBacks k n cs → HasBacks k n ds
      backs_on {n = n} h = record { taken = alike.backs n h.taken; no_more = λ b. h.no_more (alike.backs_before (suc n) b) }

      pub doing_on : (gs : List (List Key)) (p : Phase) → IsDoing next read past cs graph k gs p → IsDoing next read past ds new k gs p
      doing_on gs (phase.Checking at) c = record {
        of_entry = c.of_entry;
        recorded = c.recorded;
        marked = c.marked;
        rest = c.rest;
        checks = g.checks k c.of_entry _ c.rest c.checks;
        split = c.split;
        unchanged = unchanged_on c.unchanged;
        none_taken = backs_on c.none_taken;
      }
      doing_on gs phase.Running r = record { justified = r.justified; asks = r.asks; runs = g.runs k r.runs; begun = begun_on k r.begun; taken = backs_on r.taken }
      doing_on gs phase.Out r = record { justified = r.justified; asks = r.asks; runs = g.runs k r.runs; begun = begun_on k r.begun; taken = backs_on r.taken }

      pub out_on : (p : Phase) → TellOut next read past cs k p → TellOut next read past ds k p
      out_on (phase.Checking at) n = λ o. n (alike.out_before o)
      out_on phase.Running n = λ o. n (alike.out_before o)
      out_on phase.Out o = alike.out o

      pub opened_on : (n : Node) → record_at new k ≡ record_at graph k → IsOpenTruly next read past cs graph k n → IsOpenTruly next read past ds new k n
      opened_on n e o = record {
        no_leaf = o.no_leaf;
        reached = o.reached;
        wanted = g.wanted k o.wanted;
        same = e ∙ o.same;
        doing = doing_on (groups_of n) n.phase o.doing;
        out = out_on n.phase o.out;
      }

      ended_on : HasEnded next read past cs graph k → HasEnded next read past ds new k
      ended_on (by_read e h) = by_read e (backs_on h)
      ended_on (by_check n e u h) = by_check n e (unchanged_on u) (backs_on h)
      ended_on (by_turns t) = by_turns (record {
        no_leaf = t.no_leaf;
        begun = begun_on k t.begun;
        groups = t.groups;
        answers = t.answers;
        value = t.value;
        comes = t.comes;
        ends = t.ends;
        members = λ j m. clean_still j (t.members j m);
        taken = backs_on t.taken;
      })

      pub settled_still : record_at new k ≡ record_at graph k → IsSettledTruly next read past cs graph k → IsSettledTruly next read past ds new k
      settled_still e s = record {
        settled = g.settled k s.settled;
        not_out = λ o. s.not_out (alike.out_before o);
        how = ended_on s.how;
        change = λ r w f h. s.change r w (sym e ∙ f) h;
      }

      pub untold_on : IsUntold next read past cs k → IsUntold next read past ds k
      untold_on u = (backs_on u.0, λ o. u.1 (alike.out_before o))
