use Rattle.std.proofs.Common.{◌≡◌, ◌∙◌, ap, [], ◌∷◌, ◌++◌, length, arith, length-append}
use Rattle.base_lines.proofs.Cuts.{one_line_append, go_on, go_on_told, empty_of, told_on}
use Rattle.base_lines.proofs.pending.next_line.Goals as goal

pub returns-then-branch-clause-took : goal.returns-then-branch-clause-took
returns-then-branch-clause-took g c =
    let s = c.loop-pending.invariant.so_far in
    let t = c.in_ok-take_part.ensures in
    let ended = c.if-branch.true in
    record {
      line = s.0 ++ t.part;
      fresh = s.1;
      one = one_line_append s.0 t.part s.2 t.one;
      told = s.3;
      split = let e : c.loop-pending.pending ≡ t.part ++ 10 ∷ c.take_part.new.self = rw ended at t.split in go_on c.args.pending.now s.1 s.0 c.loop-pending.pending t.part (10 ∷ c.take_part.new.self) s.4 e;
      end = λ h. cc;
      keeps = t.keeps s.0 s.5;
    }

pub returns-then-branch-eq0-clause-took : goal.returns-then-branch-eq0-clause-took
returns-then-branch-eq0-clause-took g c =
    let s = c.loop-pending.invariant.so_far in
    let t = c.in_ok-take_part.ensures in
    let f = c.in_ok-fill.ensures in
    let ended = c.if-branch.false in
    let none : c.fill.new.self ≡ [] = empty_of _ (cc) in
    record {
      line = s.0 ++ t.part;
      fresh = s.1 ++ c.fill.new.self;
      one = one_line_append s.0 t.part s.2 t.one;
      told = told_on (g.R.Input.told c.args.input.now) (g.R.Input.told c.loop-pending.input) (g.R.Input.told c.fill.new.input) s.1 c.fill.new.self s.3 f.told;
      split = go_on_told c.args.pending.now s.1 s.0 c.loop-pending.pending t.part c.fill.new.self s.4 (let e : c.loop-pending.pending ≡ t.part ++ [] = rw ended at t.split in e) ∙ ap (λ r. (s.0 ++ t.part) ++ r) none;
      end = λ h. none;
      keeps = t.keeps s.0 s.5;
    }

pub loop-pending-preserved : goal.loop-pending-preserved
loop-pending-preserved g c =
    let s = c.loop-pending.invariant.so_far in
    let t = c.in_ok-take_part.ensures in
    let f = c.in_ok-fill.ensures in
    let ended = c.if-branch.false in
    record {
      so_far = (
        s.0 ++ t.part,
        s.1 ++ c.fill.new.self,
        one_line_append s.0 t.part s.2 t.one,
        told_on (g.R.Input.told c.args.input.now) (g.R.Input.told c.loop-pending.input) (g.R.Input.told c.fill.new.input) s.1 c.fill.new.self s.3 f.told,
        go_on_told c.args.pending.now s.1 s.0 c.loop-pending.pending t.part c.fill.new.self s.4 (let e : c.loop-pending.pending ≡ t.part ++ [] = rw ended at t.split in e),
        t.keeps s.0 s.5,
      );
      left = omega (arith, c.loop-pending.invariant.left, f.left, f.count);
      counted = omega (arith, c.loop-pending.invariant.counted, f.counted);
      ends = omega (arith, c.loop-pending.invariant.ends, f.ends);
      device = f.device ∙ c.loop-pending.invariant.device;
    }

pub returns-then-branch-clause-left : goal.returns-then-branch-clause-left
returns-then-branch-clause-left g c =
    let t = c.in_ok-take_part.ensures in
    let ended = c.if-branch.true in
    let e : c.loop-pending.pending ≡ t.part ++ 10 ∷ c.take_part.new.self = rw ended at t.split in
    omega (arith, c.loop-pending.invariant.left, ap length e, length-append t.part (10 ∷ c.take_part.new.self))
