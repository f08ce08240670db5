use mathlib.Core.Path.{refl, ◌∙◌}
use Rattle.header.specs.Heads.{HeaderReads}
use Rattle.checker.proofs.Onward.{known_ranked, counted_is, refused_is, starts_there}
use Rattle.checker.proofs.check_model.Goals as goal

pub rounds-requires : goal.rounds-requires
unfolding HeaderReads
rounds-requires c =
    let o = rw (c.start-reading.ensures.0, c.start-reading.ensures.1) at c.in-Ok.ensures in
    rw (c.moved.ensures.0, c.moved.ensures.1, c.start-reading.ensures.0) (known_ranked c.args.model c.args.board.now _ c.requires o.2, refl)

pub returns-in-Ok : goal.returns-in-Ok
returns-in-Ok c =
    let o = rw (c.start-reading.ensures.0, c.start-reading.ensures.1) at c.in-Ok.ensures in
    let w = rw (c.moved.ensures.0, c.start-reading.ensures.0) at c.rounds.ensures in
    counted_is c.args.model c.args.board.now _ _ o w

pub returns-in-Err : goal.returns-in-Err
returns-in-Err c =
    let o = rw (c.start-reading.ensures.0, c.start-reading.ensures.1) at c.in-Err.ensures in
    let e = refused_is c.args.model c.args.board.now _ o in
    let f = c.new.ensures in
    let w = c.refused.ensures in
    record { verdict = rw w.0 e; ordered = rw w.0 tt; counted = rw (← e, w.1, w.2) (refl, f.1, f.2 _ ∙ starts_there c.args.model c.args.board.now _ o) }
