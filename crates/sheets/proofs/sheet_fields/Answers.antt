use Prim.Native.Nat.{◌+◌, ◌*◌}
use mathlib.Core.Path.{◌≡◌, refl, sym, ◌∙◌}
use Rattle.std.specs.Prelude.{Err}
use Rattle.std.proofs.lemmas.Result.{err_from_is_err_and}
use Rattle.rules.specs.declared.Refusal.TheVariants.{Count, Field}
use mathlib.Core.Bool.{true}
use native.Mathlib.Omega.{arith}
use lib.Dec.{leb}
use lib.ListN.{length-set}
use Rattle.numbers.proofs.Tests.{all_none, all_more, all_end}
use Rattle.fields.proofs.Values.{count_value, count_refused, exponent_value, exponent_refused}
use Rattle.rules.specs.Bytes.{number2, number4}
use Rattle.rules.specs.Count.{table}
use Rattle.sheets.specs.Sheets.{Counted, count_good}
use Rattle.sheets.proofs.SheetTable.{pass, count_large, exponent_large, table_more}
use Rattle.sheets.proofs.SheetSteps.{exponents_more}
use Rattle.sheets.proofs.sheet_fields.Goals.{In_ok-count}
use Rattle.sheets.proofs.sheet_fields.Goals as goal

pub loop-i-init : goal.loop-i-init
unfolding table
loop-i-init c = (omega arith, refl, refl, all_none _, refl, λ j l. absurd (omega arith))

-- what the walk learns of a count and of an exponent
counted : (c : goal.In_ok-count) → let a = c.args in
    let l = c.loop-i in
    (leb (number2 a.board.now (a.at + 4 + 6 * l.i)) a.ballots ≡ true) × (c.in_ok-count.after ≡ a.at + 6 + 6 * l.i)
    × (c.in_ok-count.count ≡ number2 a.board.now (a.at + 4 + 6 * l.i))
counted c =
    let a = c.args in
    let l = c.loop-i in
    let w = count_value a.board.now l.place a.ballots (sym c.count.ensures ∙ c.in_ok-count.ensures.ok_part) in
    (rw (← l.invariant.0) w.0, omega (arith, w.1), rw (← l.invariant.0) w.2)

pub returns-in_err-count : goal.returns-in_err-count
unfolding Counted
returns-in_err-count c =
    let a = c.args in
    let l = c.loop-i in
    let p = err_from_is_err_and c.from_residual.result c.from_residual.ensures.1 in
    let v = c.in_err-count.ensures.value in
    let o = c.in_err-count.ensures.ok_part in
    let q : c.in_err-count.field-0.0 ≡ Count = let w = rw o at v in cc in
    let e : c.from_residual.result ≡ Err Count = rw (p.1, p.2, q) in
    rw e
    (count_large a.board.now a.h a.ballots a.at a.h.n l.i c.loop-i-test.true l.invariant.3
    (rw (← l.invariant.0) (count_refused a.board.now l.place a.ballots (sym c.count.ensures ∙ c.in_err-count.ensures.ok_part))))

pub returns-in_err-x : goal.returns-in_err-x
unfolding Counted
returns-in_err-x c =
    let a = c.args in
    let l = c.loop-i in
    let k = counted (goal.at.returns-in_err-x c).In_ok-count in
    let p = err_from_is_err_and c.from_residual-in_err-x.result c.from_residual-in_err-x.ensures.1 in
    let v = c.in_err-x.ensures.value in
    let o = c.in_err-x.ensures.ok_part in
    let q : c.in_err-x.field-0.0 ≡ Field = let w = rw o at v in cc in
    let e : c.from_residual-in_err-x.result ≡ Err Field = rw (p.1, p.2, q) in
    rw e
    (exponent_large a.board.now a.h a.ballots a.at a.h.n l.i c.loop-i-test.true l.invariant.3 k.0
    (rw (← k.1) (exponent_refused a.board.now c.in_ok-count.after a.h.setup.group.q
    (sym c.exponent.ensures ∙ c.in_err-x.ensures.ok_part))))

pub loop-i-preserved : goal.loop-i-preserved
loop-i-preserved c =
    let a = c.args in
    let l = c.loop-i in
    let k = counted (goal.at.loop-i-preserved c).In_ok-count in
    let x = exponent_value a.board.now c.in_ok-count.after a.h.setup.group.q (sym c.exponent.ensures ∙ c.in_ok-x.ensures.ok_part) in (
      omega (arith, k.1, x.1),
      simp length-set l.invariant.1,
      simp length-set l.invariant.2,
      all_more _ _ l.invariant.3 (rw (k.0, ← k.1) x.0),
      table_more (λ i. number2 a.board.now (a.at + 4 + 6 * i)) l.counts l.i _ (omega arith) l.invariant.4 k.2,
      exponents_more (λ i. number4 a.board.now (a.at + 6 + 6 * i)) l.s l.i _ (omega arith) l.invariant.5 (rw (← k.1) x.2),
    )

pub returns : goal.returns
unfolding Counted
returns c =
    let a = c.args in
    let l = c.loop-i in
    let e : l.i ≡ a.h.n = omega arith in (
      pass a.board.now a.h a.ballots a.at a.h.n
          (all_end a.h.n l.i (count_good a.board.now a.ballots a.h.setup.group.q a.at) (omega arith) c.loop-i-test.false l.invariant.3),
      rw e at l.invariant.4,
      rw e at l.invariant.5,
    )
