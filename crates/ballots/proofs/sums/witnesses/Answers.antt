use Prim.Native.Nat.{ℕ, ◌+◌, ◌*◌, ◌≤◌, ◌<◌, ◌^◌}
use mathlib.Core.Path.{◌≡◌, refl, ◌∙◌}
use native.Mathlib.Nat.{mul-le-mul_right}
use native.Mathlib.Omega.{arith}
use lib.ListN.{length, get_or, set, replicate}
use Rattle.statements.proofs.Lines.{row_below}
use Rattle.ballots.proofs.Secrets.{witnessed_none, witnessed_more, witness_first, witness_second, witness_later, source_within}
use Rattle.ballots.proofs.sums.witnesses.Goals.{Start, After-source_of-from}
use Rattle.ballots.proofs.sums.witnesses.Goals as goal

few : (rows n : ℕ) → rows < 8 → n ≤ 8 → rows * n ≤ 56
few rows n h k = let u : rows * n ≤ 7 * n = mul-le-mul_right n (omega arith) in omega arith

-- the struck row is within the matrix before
row_in : (s : goal.Start) → s.args.s.struck * s.args.s.n + s.args.s.n ≤ (s.args.s.rows + 1) * s.args.s.n
row_in s = row_below (s.args.s.rows + 1) s.args.s.n s.args.s.struck (omega (arith, s.requires.n_nonzero))

row_near : (s : goal.Start) → s.args.s.old + s.args.s.struck * s.args.s.n + s.args.s.n < 2 ^ 40
row_near s = omega (arith, row_in s, s.requires.draws_below.0.near)

row_there : (s : goal.Start) → s.args.s.old + s.args.s.struck * s.args.s.n + s.args.s.n ≤ length s.args.draws.now
row_there s = omega (arith, row_in s, s.requires.draws_below.0.enough)

pub loop-c-init : goal.loop-c-init
loop-c-init c =
    let f = c.args in (
      omega arith,
      few f.s.rows f.s.n (omega (arith, c.requires.n_nonzero)) (omega (arith, c.requires.n_nonzero)),
      refl,
      witnessed_more f.q f.s.n f.draws.now f.s.old f.s.new f.s.column f.s.struck 1 _ (set (replicate 64 (record { 0 = 0 })) 0 (record { 0 = get_or f.draws.now (f.s.old + f.s.struck * f.s.n + f.s.column) 0 }))
          (witnessed_more f.q f.s.n f.draws.now f.s.old f.s.new f.s.column f.s.struck 0 _ (replicate 64 (record { 0 = 0 }))
          (witnessed_none f.q f.s.n f.draws.now f.s.old f.s.new f.s.column f.s.struck _ refl) (omega arith) (witness_first f.q f.s.n f.draws.now f.s.old f.s.new f.s.column f.s.struck _ refl))
          (omega arith) (witness_second f.q f.s.n f.draws.now f.s.old f.s.new f.s.column f.s.struck _ c.sum_of.ensures),
    )

-- the pair before is within the matrix before
source_in : (c : goal.After-source_of-from) → c.source_of-from.result < (c.args.s.rows + 1) * c.args.s.n
source_in c = rw c.source_of-from.ensures (source_within c.args.s.n c.args.s.rows c.args.s.struck c.loop-c.c (omega (arith, c.requires.n_nonzero)) (omega (arith, c.loop-c.invariant.2, c.loop-c-test.true)))

pub past-requires : goal.past-requires
past-requires c =
    let p = c.requires.draws_below.0 in
    (p.positive, p.below (c.args.s.old + c.source_of-from.result) (omega (arith, source_in (goal.at.past-requires c).After-source_of-from)))

pub loop-c-preserved : goal.loop-c-preserved
loop-c-preserved c =
    let l = c.loop-c in
    let f = c.args in
    let e : 2 + l.c + 1 ≡ 2 + (l.c + 1) = omega arith in (
      omega arith,
      l.invariant.1,
      l.invariant.2,
      rw e at
          (witnessed_more f.q f.s.n f.draws.now f.s.old f.s.new f.s.column f.s.struck (2 + l.c) _ l.w l.invariant.3 (omega (arith, l.invariant.1, c.loop-c-test.true))
          (witness_later f.q f.s.n f.draws.now f.s.old f.s.new f.s.column f.s.struck l.c _ (c.past.ensures ∙ rw c.source_of-from.ensures))),
    )

pub returns : goal.returns
returns c =
    let l = c.loop-c in
    let f = c.args in
    let e : l.c ≡ f.s.rows * f.s.n = omega (arith, l.invariant.2) in
    rw (← e) l.invariant.3

pub sum_of-requires : goal.sum_of-requires
sum_of-requires c = (c.requires.draws_below.0.positive, omega (arith, c.requires.n_nonzero), omega arith, omega (arith, row_near (goal.at.sum_of-requires c).Start), omega (arith, row_there (goal.at.sum_of-requires c).Start, c.requires.n_nonzero))

pub source_of-from-requires : goal.source_of-from-requires
source_of-from-requires c = (omega (arith, c.requires.n_nonzero), omega (arith, c.requires.n_nonzero, c.loop-c.invariant.1))
