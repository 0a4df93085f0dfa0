-- `network::sound::Sound::tally` meets its contract: the rules stay kept, and one line more stands beside the tallies.
use Rattle.std.proofs.Common.{◌<◌, arith, leb-false}
use Rattle.semantics.specs.Limits.{max_lines}
use Rattle.semantics.specs.Notes.{all_lines}
use Rattle.notes.specs.Views.{as_tallies}
use Rattle.notes.proofs.Tallying.{rules_stay, lines-with_line}
use Rattle.network.proofs.sound.Sound.tally.Goals as goal

pub invariant_of-self : goal.invariant_of-self
invariant_of-self c =
    let s = c.args.self.now in
    let few : all_lines (as_tallies s.notes.tallies) < max_lines = leb-false max_lines _ c.requires in
    record {
      network_rules = s.network_rules;
      notes_rules = rw c.tally.ensures (rules_stay s.notes c.args.accepted s.notes_rules few);
      lines_told = rw c.tally.ensures (omega (arith, lines-with_line s.notes c.args.accepted s.notes_rules few, s.lines_told));
    }
