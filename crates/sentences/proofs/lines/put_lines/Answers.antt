use Prim.Native.Nat.{◌+◌}
use mathlib.Core.Path.{◌≡◌, ap}
use lib.ListN.{length}
use native.Mathlib.Omega.{arith}
use Rattle.numbers.specs.Below.{concat_below}
use Rattle.output.proofs.Laws.{blocks_more}
use Rattle.sentences.specs.Lines.{line_named}
use Rattle.sentences.proofs.Texts.{text_is, no_line, lines_long, lines_extend}
use Rattle.sentences.proofs.lines.put_lines.Goals as goal

pub loop-m-init : goal.loop-m-init
loop-m-init g c = let e = no_line (line_named c.args.x.now) in (rw (← e) (g.met.S.Sink.laws.none _), omega (arith, ap length e))

pub put_line-requires : goal.put_line-requires
put_line-requires g c =
    let laws = g.met.S.Sink.laws in
    let x = c.args.x.now in
    let f = line_named x in
    let m = c.loop-m.m in
    let more = lines_extend f (m + 1) (x.ended.count.gone.outs + 1) (omega arith) in
    let all = laws.front _ (concat_below (m + 1) f) more.0 (rw (text_is x, more.1) at c.requires) in
    (omega arith, laws.rest _ _ (concat_below m f) (f m) (rw blocks_more at all) c.loop-m.invariant.0)

pub loop-m-preserved : goal.loop-m-preserved
loop-m-preserved g c =
    let f = line_named c.args.x.now in
    let m = c.loop-m.m in
    (rw (blocks_more f m) (g.met.S.Sink.laws.both _ _ _ _ _ c.loop-m.invariant.0 c.put_line.ensures.taken), omega (arith, lines_long f m, c.loop-m.invariant.1, c.put_line.ensures.few))

pub returns : goal.returns
returns g c =
    let x = c.args.x.now in
    let e : c.loop-m.m ≡ x.ended.count.gone.outs + 1 = omega arith in
    record {
      taken = rw (text_is x, ← e) c.loop-m.invariant.0;
      few = rw (text_is x, ← e) (omega (arith, c.loop-m.invariant.1, x.finished.few));
    }
