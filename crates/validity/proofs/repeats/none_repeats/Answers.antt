use mathlib.Core.Path.{◌≡◌, refl, sym, ◌∙◌}
use native.Mathlib.Omega.{arith}
use Rattle.numbers.proofs.Tests.{all_none, all_more, all_end}
use Rattle.jobs.specs.Job.{record_draws, record_secrets, round_draws}
use Rattle.jobs.specs.Write.{different}
use Rattle.jobs.proofs.Draws.{secrets_within, draws_start, draws_step, draws_end, draws_among}
use Rattle.validity.proofs.Walk.{record_good, repeats}
use Rattle.validity.proofs.repeats.none_repeats.Invariants.{kind_at}
use Rattle.validity.proofs.repeats.none_repeats.Goals.{After-all_different, After-record_draws-at, After-record_secrets}
use Rattle.validity.proofs.repeats.none_repeats.Goals as goal

pub loop-m-init : goal.loop-m-init
unfolding round_draws
loop-m-init c = (refl, all_none _)

pub loop-b-init : goal.loop-b-init
loop-b-init c =
    let f = c.args in
    let l = c.loop-m in
    (l.invariant.0 ∙ sym (draws_start f.n (kind_at f.kinds.now) f.k l.m), all_none _)

-- how many x the record has
secrets_told : (c : goal.After-record_secrets) → let f = c.args in
    let l = c.loop-m in
    c.record_secrets.result ≡ record_secrets f.n (kind_at f.kinds.now c.loop-b.b) l.m
secrets_told c = c.record_secrets.ensures.0 ∙ rw c.from-kind.ensures

-- they are among the draws needed
pub all_different-requires : goal.all_different-requires
all_different-requires c =
    let f = c.args in
    let l = c.loop-m in
    let i = c.loop-b in (
      c.record_secrets.ensures.1,
      omega (
        arith,
        secrets_told c,
        i.invariant.0,
        draws_among f.n (kind_at f.kinds.now) f.k f.rounds l.m i.b (omega arith) (omega arith),
        secrets_within f.n (kind_at f.kinds.now i.b) l.m,
        c.requires.3,
      ),
    )

told : (c : goal.After-all_different) → let f = c.args in
    let l = c.loop-m in
    c.all_different.result ≡ record_good f.draws.now f.n (kind_at f.kinds.now) f.k l.m c.loop-b.b
told c =
    let secrets_told : (let f = c.args in let l = c.loop-m in c.record_secrets.result ≡ record_secrets f.n (kind_at f.kinds.now c.loop-b.b) l.m) = c.record_secrets.ensures.0 ∙ rw c.from-kind.ensures in
    let f = c.args in
    let i = c.loop-b in
    c.all_different.ensures ∙ (λ j. different f.draws.now (i.invariant.0 j) (secrets_told j))

pub returns-then-not-all_different : goal.returns-then-not-all_different
returns-then-not-all_different c =
    let f = c.args in
    let l = c.loop-m in
    let i = c.loop-b in
    sym (repeats f.draws.now f.n (kind_at f.kinds.now) f.k f.rounds l.m i.b (omega arith) (omega arith) (sym (told (goal.at.returns-then-not-all_different c).After-all_different) ∙ c.if-not-all_different.true))

-- one record more
drawn : (c : goal.After-record_draws-at) → let f = c.args in
    let l = c.loop-m in
    c.record_draws-at.result ≡ record_draws f.n (kind_at f.kinds.now c.loop-b.b) l.m
drawn c = c.record_draws-at.ensures.0 ∙ rw c.from-kind.ensures

pub overflow_add-at : goal.overflow_add-at
overflow_add-at c =
    let f = c.args in
    let l = c.loop-m in
    let i = c.loop-b in
    omega (arith, drawn c, i.invariant.0, draws_among f.n (kind_at f.kinds.now) f.k f.rounds l.m i.b (omega arith) (omega arith), c.requires.3)

pub loop-b-preserved : goal.loop-b-preserved
loop-b-preserved c =
    let f = c.args in
    let l = c.loop-m in
    let i = c.loop-b in (
      omega (arith, drawn c, i.invariant.0, draws_step f.n (kind_at f.kinds.now) f.k l.m i.b),
      all_more i.b _ i.invariant.1 (sym (told (goal.at.loop-b-preserved c).After-all_different) ∙ c.if-not-all_different.false),
    )

pub loop-m-preserved : goal.loop-m-preserved
loop-m-preserved c =
    let f = c.args in
    let l = c.loop-m in
    let i = c.loop-b in (
      i.invariant.0 ∙ draws_end f.n (kind_at f.kinds.now) f.k l.m i.b (omega arith),
      all_more l.m _ l.invariant.1 (all_end f.k i.b (record_good f.draws.now f.n (kind_at f.kinds.now) f.k l.m) (omega arith) (omega arith) i.invariant.1),
    )
