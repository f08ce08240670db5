use Prim.Native.Nat.{ℕ, suc, ◌+◌, ◌*◌, ◌≤◌}
use mathlib.Core.Path.{◌≡◌, refl, ap, subst, ◌∙◌}
use mathlib.Core.List.{List}
use native.Mathlib.Omega.{arith}
use lib.ListN.{length}
use Rattle.jobs.specs.Job as J
use Rattle.jobs.specs.Job.{kind_of}
use Rattle.jobs.specs.Board.{job_draws}
use Rattle.output.specs.Written.{written}
use Rattle.proving.specs.Plans.{DrawsBelow}
use Rattle.ballots.proofs.Entries.{spread_part}
use Rattle.layout.proofs.Rounds.{length_first}
use Rattle.plain.proofs.Sizes.{draws_first}
use Rattle.count.specs.State.{list_of}
use Rattle.boards.specs.Parts.{board_job, head_group, draws_before}
use Rattle.boards.proofs.Plans.{ballot_is}
use Rattle.jobs.proofs.Draws.{draws_within}
use Rattle.statements.proofs.Lines.{row_below}
use Rattle.boards.proofs.records.write_first.Goals.{Start}
use Rattle.boards.proofs.records.write_first.Goals as goal

abbrev job_at : (s : goal.Start) → J.Job
job_at s = board_job s.args.entries

-- the ranking is within the list
ranked : (s : goal.Start) → s.args.turn.b * s.args.entries.head.n + s.args.entries.head.n ≤ length s.args.entries.rankings.now
ranked s = omega (arith, row_below s.args.entries.head.k s.args.entries.head.n s.args.turn.b s.requires.0.below, s.requires.0.round.listed)

-- where its draws start
here : (s : goal.Start) → s.args.turn.new ≡ job_draws (job_at s) 0 s.args.turn.b
here s = s.requires.0.new ∙ ap (λ (m : ℕ). job_draws (job_at s) m s.args.turn.b) s.requires.1

pub write_ballot-requires : goal.write_ballot-requires
write_ballot-requires c =
    let f = c.args in
    let p = c.requires in
    let job = job_at (goal.at.write_ballot-requires c).Start in
    let kind = kind_of job f.turn.b in
    let d = subst (λ (m : ℕ). DrawsBelow job.q job.draws 0 (draws_before job (suc m))) p.1 p.0.round.drawn in record {
      ready = (f.entries.head.ready, omega (arith, p.0.round.early), p.0.round.n_high, omega (arith, length_first job.n kind f.turn.plan.m p.1, p.2));
      draws_below = spread_part _ f.entries.draws.now 0 _ _ _ d (omega (arith, here (goal.at.write_ballot-requires c).Start, draws_first job.n kind 0 refl, draws_within job.n (kind_of job) job.K 0 f.turn.b p.0.below));
    }

pub returns : goal.returns
returns c =
    let f = c.args in
    let t = f.turn.plan in
    let p = c.requires in
    c.write_ballot.ensures
    ∙ ap (λ (x : List ℕ). written x f.out.now)
    (ballot_is (job_at (goal.at.returns c).Start) (head_group f.entries.head) f.turn.b t.m _ _ (list_of t.before) _ t.a _ p.1 refl (here (goal.at.returns c).Start) (p.0.round.first p.1) c.still_in-list.ensures)

pub still_in-list-requires : goal.still_in-list-requires
still_in-list-requires c = (c.requires.0.round.n_high, ranked (goal.at.still_in-list-requires c).Start, c.requires.0.round.gone_listed)
