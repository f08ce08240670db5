use Rattle.std.proofs.lemmas.Result.{err_from_is_err_and}
use Rattle.round.proofs.RoundEnds.{by_records}
use Rattle.checker.proofs.read_round.Goals as goal

pub returns-in_err-read : goal.returns-in_err-read
returns-in_err-read c =
    let p = err_from_is_err_and c.from_residual.result c.from_residual.ensures.1 in
    rw (p.1, p.2) (by_records _ _ _ _ _ _ c.in_err-read.ensures)
