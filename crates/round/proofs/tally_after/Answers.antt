use Rattle.round.proofs.tally_after.Goals as goal

pub returns-then-kind-eq-COUNTED : goal.returns-then-kind-eq-COUNTED
returns-then-kind-eq-COUNTED c =
    record {
      row = λ _. rw (← c.pairs_from.ensures) c.with_row.ensures.1;
      more = λ _. c.with_row.ensures.0;
      same = λ ne. absurd (ne c.if-kind-eq-COUNTED.true);
    }
