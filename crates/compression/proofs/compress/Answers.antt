use Rattle.std.proofs.Common.{refl, arith}
use Rattle.compression.specs.Block.{K, rounds}
use Rattle.compression.proofs.Laws.{rounds_more, compress_end}
use Rattle.compression.proofs.compress.Goals as goal

pub loop-t-init : goal.loop-t-init
unfolding rounds
loop-t-init c = record { is_a = refl; is_b = refl; is_c = refl; is_d = refl; is_e = refl; is_f = refl; is_g = refl; is_h = refl }

pub loop-t-preserved : goal.loop-t-preserved
unfolding K
loop-t-preserved c =
    rounds_more _ _ _ _ _ _ _ _ _ _ _ _ _ _ _ _ _
    c.loop-t.invariant
    refl
    refl
    c.temp1-t1.ensures
    c.temp2-t2.ensures
    refl
    refl

pub returns : goal.returns
returns c =
    compress_end _ _ _ _ _ _ _ _ _ _ _ _ _ _ _ _ _ _ _ _
    c.expand.ensures
    (omega (arith, c))
    c.loop-t.invariant
    refl
    refl
    refl
    refl
    refl
    refl
    refl
    refl
