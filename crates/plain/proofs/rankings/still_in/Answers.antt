use Rattle.std.proofs.Common.{◌≡◌, ◌+◌, ◌-◌, ◌<◌, sym, ap, refl, ◌∙◌, length, take, drop, get_or, arith, length-append}
use Rattle.rules.specs.Count.{member}
use Rattle.rules.specs.Answers.{with_zeros}
use Rattle.jobs.specs.Job.{remaining}
use Rattle.count.specs.State.{list_of}
use Rattle.count.proofs.Firsts.{pad_more}
use Rattle.plain.proofs.Lists.{standing_out, standing_in, few}
use Rattle.plain.proofs.rankings.still_in.Goals.{else-not-is_out, then-not-is_out}
use Rattle.plain.proofs.rankings.still_in.Goals as goal

pub loop-c-init : goal.loop-c-init
unfolding with_zeros remaining
loop-c-init c = (refl, refl)

pub loop-c-preserved : goal.loop-c-preserved
loop-c-preserved c =
    let l = c.loop-c in
    let f = c.args in
    let gone = list_of f.gone in
    let xs = take (f.at + f.n - f.at) (drop f.at f.rankings.now) in
    let x = get_or xs l.c-index 0 in
    let h = c.loop-c-test.true in
    let told : member x gone ≡ c.is_out.result = sym (c.is_out.ensures ∙ rw c.from.ensures) in
    let st = remaining gone (take l.c-index xs) in
    let room : length st < 8 = omega (arith, few gone xs l.c-index, c.requires) in
    (elim c.if-not-is_out.branch [
      | then-not-is_out w ↦ let e = standing_in gone xs l.c-index h (told ∙ w.if-not-is_out.true) in (
        w.list-is ∙ rw (l.invariant.0, l.invariant.1) (pad_more st (length st) x refl room ∙ ap with_zeros e),
        w.found-is ∙ rw (← e) (simp length-append (omega (arith, l.invariant.1))),
      )
      | else-not-is_out w ↦ let e = standing_out gone xs l.c-index h (told ∙ w.if-not-is_out.false) in
          (w.list-is ∙ l.invariant.0 ∙ ap with_zeros e, w.found-is ∙ l.invariant.1 ∙ ap length e)
    ])

pub bounds-list-found : goal.bounds-list-found
bounds-list-found c = omega (arith, few (list_of c.args.gone) (take (c.args.at + c.args.n - c.args.at) (drop c.args.at c.args.rankings.now)) c.loop-c.c-index, c.loop-c.invariant.1, c.requires)

pub overflow_add-found : goal.overflow_add-found
overflow_add-found c = omega (arith, few (list_of c.args.gone) (take (c.args.at + c.args.n - c.args.at) (drop c.args.at c.args.rankings.now)) c.loop-c.c-index, c.loop-c.invariant.1, c.requires)
