use mathlib.Core.Path.{◌∙◌}
use Rattle.statements.proofs.Reading.{walked_none, walked_may, walked_more, walked_bad, walked_end}
use Rattle.statements.proofs.walks.walk.Goals as goal

pub loop-init : goal.loop-init
loop-init g c good size s = walked_none good _ size

pub step-requires : goal.step-requires
step-requires g c = let r = c.requires in walked_may r.2 (c.loop.invariant r.0 r.1 r.2) c.loop-test.true

pub loop-preserved : goal.loop-preserved
loop-preserved g c good size s = walked_more s (c.loop.invariant good size s) c.loop-test.true c.in_ok-place.ensures

pub returns-in_err-place : goal.returns-in_err-place
returns-in_err-place g c good size s = c.from_residual.ensures ∙ walked_bad s (c.loop.invariant good size s) c.loop-test.true c.in_err-place.ensures

pub returns : goal.returns
returns g c good size s = walked_end s (c.loop.invariant good size s) c.loop.auto.counter-end c.loop-test.false
