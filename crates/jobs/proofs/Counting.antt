-- The rounds of a job's plain count: who goes out was still in, and every ranking has lost one more.
use Prim.Native.Nat.{ℕ, zero, suc, ◌+◌, ◌-◌, ◌≤◌, ◌<◌}
use native.Mathlib.Nat.{not-suc-le-zero, sub-zero}
use native.Mathlib.Omega.{arith}
use mathlib.Core.Path.{◌≡◌, refl, sym, ◌∙◌}
use mathlib.Core.Bool.{Bool, true, false}
use mathlib.Core.List.{List, [], ◌∷◌}
use lib.ListN.{length, length-append}
use borrow.Author.Tests.{eqb-false}
use Rattle.numbers.proofs.Tests.{or_false_left}
use Rattle.rules.specs.Records.{is_counted}
use Rattle.rules.specs.Count.{Standing, start, next, leaves, closes, ended, is_ranking, counts_of, count_from, plain_count}
use Rattle.rules.proofs.Lists.{length_where}
use Rattle.rules.proofs.Leaving.{In, leaves_in_lem, rounds_over}
use Rattle.jobs.specs.Job.{Job, ranking_of, kind_of, counted_below, counted_rankings, plain_result, remaining, row_of}
use Rattle.jobs.proofs.Lists.{standing_all, strike}
use Rattle.jobs.proofs.Rankings.{times, ranking_length, times_member, times_standing, length_struck, once, place_below}

-- a process still in stands once on what is left of a ranking
pub in_once : (n : ℕ) (gone r : List ℕ) (c : ℕ) → is_ranking n r ≡ true → In gone n c → times c (remaining gone r) ≡ 1
in_once n gone r zero ranking o = absurd (not-suc-le-zero o.low)
in_once n gone r (suc c) ranking o = times_standing (suc c) gone r o.still ∙ once n r ranking c o.high

pub place_in : (n : ℕ) (gone r : List ℕ) (c : ℕ) → is_ranking n r ≡ true → In gone n c → row_of c (remaining gone r) < length (remaining gone r)
place_in n gone r c ranking o = place_below c (remaining gone r) (times_member c (remaining gone r) (omega (arith, in_once n gone r c ranking o)))

module _ (job : Job) where
  -- the counts of a round, whether it closes the board, and who goes out in it otherwise
  abbrev pub counts_in : Standing → List ℕ
  counts_in st = counts_of job.n (counted_rankings job) st.gone

  abbrev pub closes_in : Standing → Bool
  closes_in st = closes job.n st (counts_in st) (counted_below job job.K)

  abbrev pub leaves_in : Standing → ℕ
  leaves_in st = leaves job.n st (counts_in st)

  -- round m is reached, and fuel rounds are left
  pub record Reached (fuel : ℕ) (st : Standing) (m : ℕ) : Type 0 where
    pub fuelled : fuel + m ≡ job.n
    pub early : m + 2 ≤ job.n
    pub sheeted : length st.sheets ≡ m
    pub out : length st.gone ≡ m
    pub short : (k : ℕ) → k < job.K → length (remaining st.gone (ranking_of job k)) ≡ job.n - m
    pub plain : count_from job.n (counted_rankings job) fuel st ≡ plain_result job

  module _ (ranked : (k : ℕ) → k < job.K → is_ranking job.n (ranking_of job k) ≡ true) where
    pub first_reached : 2 ≤ job.n → Reached job.n start 0
    unfolding plain_count
    first_reached many =
        record {
          fuelled = omega arith;
          early = many;
          sheeted = refl;
          out = refl;
          short = λ k l. rw (standing_all (ranking_of job k), sub-zero) (ranking_length job.n (ranking_of job k) (ranked k l));
          plain = refl;
        }

    module _ {fuel : ℕ} {st : Standing} {m : ℕ} (r : Reached (suc fuel) st m) where
      pub in_rounds : m < (plain_result job).rounds
      in_rounds = rw (r.plain, r.sheeted) at (rounds_over job.n (counted_rankings job) (suc fuel) st)

      pub leaves_still_in : In st.gone job.n (leaves_in st)
      leaves_still_in = leaves_in_lem job.n st (counts_in st) (omega (arith, r.out, r.early))

      pub plain_closed : closes_in st ≡ true → plain_result job ≡ ended job.n st (counts_in st)
      unfolding count_from
      plain_closed e = sym r.plain ∙ rw (length_where job.K (λ k. is_counted (kind_of job k)) (ranking_of job), e)

      pub next_reached : closes_in st ≡ false → Reached fuel (next job.n st (counts_in st)) (suc m)
      unfolding count_from closes
      next_reached e =
          record {
            fuelled = omega (arith, r.fuelled);
            early = omega (arith, r.early, r.sheeted, eqb-false (length st.sheets + 1) (job.n - 1) (or_false_left _ _ e));
            sheeted = omega (arith, length-append st.sheets (counts_in st ∷ []), r.sheeted);
            out = omega (arith, length-append st.gone (leaves_in st ∷ []), r.out);
            short = λ k l.
                rw (← (strike (leaves_in st) st.gone (ranking_of job k)))
                (omega (
                  arith,
                  length_struck (leaves_in st) (remaining st.gone (ranking_of job k)),
                  in_once job.n st.gone (ranking_of job k) (leaves_in st) (ranked k l) leaves_still_in,
                  r.short k l,
                  r.early,
                ));
            plain = rw (length_where job.K (λ k. is_counted (kind_of job k)) (ranking_of job), e) at r.plain;
          }
