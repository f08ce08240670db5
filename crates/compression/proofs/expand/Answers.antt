use Rattle.std.proofs.Common.{◌≡◌, sym, refl, ◌∙◌, arith, length-set, take_all, rules}
use Rattle.compression.specs.Block.{words, schedule}
use Rattle.compression.proofs.Laws.{words_more, schedule_more}
use Rattle.compression.proofs.expand.Goals as goal

pub loop-i-init : goal.loop-i-init
unfolding words
loop-i-init c = (search rules, refl)

pub loop-n-init : goal.loop-n-init
unfolding schedule
loop-n-init c =
    let l = c.loop-i in
    let e : l.i ≡ 16 = omega arith in
    (l.invariant.0, rw e at l.invariant.1)

pub loop-i-preserved : goal.loop-i-preserved
loop-i-preserved c = let l = c.loop-i in (simp length-set l.invariant.0, words_more _ l.w l.i _ (omega arith) l.invariant.1 c.word_at.ensures)

pub loop-n-preserved : goal.loop-n-preserved
loop-n-preserved c = let l = c.loop-n in (simp length-set l.invariant.0, schedule_more _ l.w l.n _ (omega arith) l.invariant.1 c.next_word.ensures)

pub returns : goal.returns
returns c = let l = c.loop-n in let e : l.n ≡ 48 = omega arith in sym (take_all 64 l.w (omega arith)) ∙ rw e at l.invariant.1
