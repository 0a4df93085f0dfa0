-- `run::SoundRun::feed` meets its contract: the line so far grows, or it is the first of the lines that are taken.
use Rattle.std.proofs.Common.{◌≡◌, ◌≤◌, ◌∙◌, length, rules}
use Rattle.semantics.specs.Limits.{min_room}
use Rattle.network.specs.Sound.{whole}
use Rattle.run.specs.Runs.{run_of, line_alone}
use Rattle.run.specs.Sound.{whole_run}
use Rattle.run.proofs.Prints.{open_line}
use Rattle.run.proofs.Sound.{run-sound}
use Rattle.run.proofs.Pieces.{got_open, grows, ends}
use Rattle.run.proofs.sound_run.SoundRun.feed.Goals as goal

pub invariant_of-self-clause-line_open : goal.invariant_of-self-clause-line_open
invariant_of-self-clause-line_open c =
    let room : min_room ≤ length c.args.out.now = search rules in
    let wide = c.args.self.now.line_kept in
    let sound = run-sound c.args.self.now in
    let fed = grows (whole_run c.args.self.now) c.args.piece.now c.args.out.now sound room wide c.read_on-cut.result c.read_on-cut.ensures c.in_default.is in
    open_line (run_of (whole c.args.self.now.state) c.read_on-cut.result.pending) (fed.sound ∙ sound)

pub returns-in_default : goal.returns-in_default
returns-in_default c =
    let room : min_room ≤ length c.args.out.now = search rules in
    let wide = c.args.self.now.line_kept in
    grows (whole_run c.args.self.now) c.args.piece.now c.args.out.now (run-sound c.args.self.now) room wide c.read_on-cut.result c.read_on-cut.ensures c.in_default.is

pub print_line-at-requires-clause-line_value : goal.print_line-at-requires-clause-line_value
print_line-at-requires-clause-line_value c =
    let room : min_room ≤ length c.args.out.now = search rules in
    let wide = c.args.self.now.line_kept in
    got_open (whole_run c.args.self.now) c.args.piece.now c.args.out.now (run-sound c.args.self.now) room wide c.read_on-cut.result c.read_on-cut.ensures

pub invariant_of-self-2-clause-line_open : goal.invariant_of-self-2-clause-line_open
invariant_of-self-2-clause-line_open c =
    let room : min_room ≤ length c.args.out.now = search rules in
    let wide = c.args.self.now.line_kept in
    let sound = run-sound c.args.self.now in
    let first = c.print_line-at in
    let same : length first.new.out ≡ length c.args.out.now = search rules in
    let fed =
    ends (whole_run c.args.self.now) _ c.args.out.now sound room wide _ c.read_on-cut.ensures c.in-Some.from c.in-Some.is
    (line_alone (whole first.new.s) first.result) _ first.ensures same _ _ _ c.take_lines-behind.ensures c.left_over-next.result
    c.left_over-next.ensures in
    open_line (run_of (whole c.take_lines-behind.new.s) c.left_over-next.result.0) (fed.sound ∙ sound)

pub returns : goal.returns
returns c =
    let room : min_room ≤ length c.args.out.now = search rules in
    let wide = c.args.self.now.line_kept in
    let first = c.print_line-at in
    let same : length first.new.out ≡ length c.args.out.now = search rules in
    ends (whole_run c.args.self.now) _ c.args.out.now (run-sound c.args.self.now) room wide _ c.read_on-cut.ensures c.in-Some.from c.in-Some.is
    (line_alone (whole first.new.s) first.result) _ first.ensures same _ _ _ c.take_lines-behind.ensures c.left_over-next.result
    c.left_over-next.ensures
