-- What the checker's answer says of the text.
use Prim.Native.Nat.{ℕ, ◌+◌, ◌-◌, ◌≤◌}
use mathlib.Core.Path.{◌≡◌, sym, ap, subst, ◌∙◌}
use mathlib.Core.List.{List}
use native.Mathlib.Omega.{arith}
use lib.ListN.{take}
use Rattle.std.specs.Prelude.{Ok, Err}
use Rattle.sha256.specs.Message.{sha256}
use Rattle.rules.specs.Count.{Result}
use Rattle.rules.specs.Header.{ranked, header}
use Rattle.rules.specs.Check.{accepted, refused, check_board}
use Rattle.rules.specs.Sentences.{who_in}
use Rattle.rules.specs.Notice.{board_result, text_refused, tell, text_outcome}
use Rattle.rules.specs.Answers.{refusal_number}
use Rattle.rules.specs.declared.Accepted.{Accepted}
use Rattle.rules.specs.declared.Refused.{Refused}
use Rattle.count.specs.declared.Ended.{Ended}
use Rattle.count.specs.State.{result_of}
use Rattle.checker.specs.declared.Counted.{Counted}
use Rattle.checker.specs.Counts.{stops_at, Ends, CountOf, Verified}
use Rattle.sentences.specs.Finished.{Finished}
use Rattle.whole.specs.Sentences.{IsResult}
use Rattle.whole.proofs.Sentences.{notices}
use Rattle.whole.proofs.Sentences.Rounds.{who_in_lem}

module _ (s lent : List ℕ) (room : ℕ) (r : Counted) (w : Verified s (header s) (check_board sha256 s) (stops_at sha256 s ranked) r) where
  -- "A board that the checker refuses is refused alike, first."
  pub refused_alike : (why : Refused) → r.verdict ≡ Err why → text_outcome sha256 s lent room ≡ text_refused (refusal_number why.refusal) why.record
  unfolding text_outcome
  refused_alike why a =
      let v : check_board sha256 s ≡ refused (refusal_number why.refusal) why.record = sym w.verdict ∙ rw a in
      rw (v, text_outcome)

  module _ (told : Accepted) (a : r.verdict ≡ Ok told) where
    abbrev order : List ℕ
    order = take (told.rounds - 1) told.order

    verdict_is : check_board sha256 s ≡ accepted told.rounds order told.winner
    verdict_is = sym w.verdict ∙ rw a

    pub ends : Ends s (header s) told.rounds order told.winner r.n r.count
    ends = subst (λ v. CountOf s (header s) v (stops_at sha256 s ranked) r.n r.count) verdict_is w.counted

    abbrev ended : Ended
    ended = record { count = r.count; winner = told.winner }

    pub tells : tell r.n lent (result_of r.n ended) room ≡ text_outcome sha256 s lent room
    unfolding text_outcome
    tells = rw (verdict_is, text_outcome, ends.result, ends.same_n)

    many : r.count.gone.outs + 1 ≡ told.rounds
    unfolding result_of
    many = ap (λ (x : Result). x.rounds) ends.result

    -- the result is that of an accepted board, so whoever leaves or wins is one of its processes
    pub finished : Finished r.n ended
    finished =
        let e = ends in
        let result = board_result s told.rounds order told.winner in
        let is : IsResult r.n result = rw e.same_n ((notices sha256).of_boards s told.rounds order told.winner verdict_is) in
        record {
          kept = e.kept;
          few = omega (arith, e.few, e.high);
          low = λ m l. subst (λ (x : Result). 1 ≤ who_in x m) (sym e.result) (who_in_lem r.n result is m (omega (arith, many))).0;
          high = λ m l. subst (λ (x : Result). who_in x m ≤ r.n) (sym e.result) (who_in_lem r.n result is m (omega (arith, many))).1;
        }
