use native.Mathlib.Omega.{arith}
use lib.ListN.{length}
use Rattle.sha256.specs.Message.{sha256}
use Rattle.jobs.specs.Job.{Job}
use Rattle.jobs.specs.Write.{write_outcome}
use Rattle.gooseoften.specs.Answers.{job}
use Rattle.gooseoften.proofs.Codes.{which_placed}
use Rattle.gooseoften.proofs.Calls.{replied}
use Rattle.gooseoften.proofs.gooseoften_write.Goals.{Start}
use Rattle.gooseoften.proofs.gooseoften_write.Goals as goal

abbrev job_at : (s : goal.Start) → Job
job_at s = let f = s.args in job f.n f.k f.p f.q f.g0 f.counter f.label.now f.rankings.now f.kinds.now f.draws.now

pub put_reply-requires : goal.put_reply-requires
put_reply-requires c =
    let w = c.write in
    record {
      in_bounds = omega (arith, c.well_formed);
      reply_bound = which_placed (job_at (goal.at.put_reply-requires c).Start) (length c.args.out.now) w.result w.ensures.result_value;
    }

pub returns : goal.returns
returns c =
    let w = c.write in
    let e = c.put_reply.ensures in
    let r =
    replied (write_outcome sha256 (job_at (goal.at.returns c).Start) (length c.args.out.now)) c.args.answer.now _ w.result _ w.ensures.result_value w.ensures.order_value
    e.value e.answer_after
    in
    record {
      value = r.0;
      answer_after = r.1;
      out_after = w.ensures.out_after;
    }
