use native.Mathlib.Omega.{arith}
use mathlib.Core.Path.{◌∙◌}
use Rattle.sentences.proofs.Rounds.{Told, line_is, line_few, opening_fits, counts_fit, ending_fits}
use Rattle.sentences.proofs.lines.put_line.Goals.{After-name-who}
use Rattle.sentences.proofs.lines.put_line.Goals as goal

told : (g : _) (c : goal.After-name-who g) → Told c.args.x.now c.args.m c.first_of-gone.result c.name-who.result.now
told g c =
    record {
      inside = c.requires.0;
      gone_is = c.first_of-gone.ensures.2;
      name_is = c.name-who.ensures ∙ rw (c.who_in.ensures c.args.x.now.names.count);
    }

pub put_opening-requires : goal.put_opening-requires
put_opening-requires g c =
    (omega (arith, c.args.x.now.finished.few), opening_fits (told g (goal.at.put_opening-requires g c).After-name-who) g.met.S.Sink.laws c.requires.1)

pub put_counts-requires : goal.put_counts-requires
put_counts-requires g c =
    (c.first_of-gone.ensures.1, counts_fit (told g (goal.at.put_counts-requires g c).After-name-who) g.met.S.Sink.laws c.requires.1 c.put_opening.ensures.taken)

pub put_ending-requires : goal.put_ending-requires
put_ending-requires g c =
    ending_fits (told g (goal.at.put_ending-requires g c).After-name-who) g.met.S.Sink.laws c.requires.1 c.put_opening.ensures.taken c.put_counts.ensures.taken

pub returns : goal.returns
returns g c =
    let laws = g.met.S.Sink.laws in
    let t = told g (goal.at.returns g c).After-name-who in
    record {
      taken = rw (← line_is t) (laws.both _ _ _ _ _ (laws.both _ _ _ _ _ c.put_opening.ensures.taken c.put_counts.ensures.taken) c.put_ending.ensures);
      few = line_few t c.put_opening.ensures.few c.put_counts.ensures.few;
    }
