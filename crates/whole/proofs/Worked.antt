-- The starred cases hold.
use Prim.Native.Nat.{ℕ, suc, ◌+◌, ◌*◌, ◌-◌, ◌%◌, ◌≤◌, ◌<◌}
use mathlib.Core.Path.{◌≡◌, refl, ap, ◌∙◌}
use mathlib.Core.Bool.{Bool, true, false, not, ◌&&◌, and-false, or-true}
use mathlib.Core.List.{List, [], ◌∷◌}
use native.Mathlib.Omega.{arith}
use lib.Dec.{leb, ltb, eqb}
use lib.ListN.{length, get_or, replicate}
use borrow.Author.Tests.{le-leb, lt-ltb, le-ltb, ne_eqb}
use Rattle.numbers.specs.Below.{all_below, sum_below, concat_below}
use Rattle.numbers.specs.Primes.{is_prime}
use Rattle.numbers.proofs.Tests.{and_true, all_true, any_holds, any_fails}
use Rattle.compression.specs.Words.{ROTR, ¬w, Ch, Maj, Σ₀, Σ₁, σ₀, σ₁}
use Rattle.compression.specs.Block as Block
use Rattle.sha256.specs.Message as Message
use Rattle.sha256.specs.Message.{sha256}
use Rattle.group.specs.Arithmetic.{pow_mod}
use Rattle.group.specs.Elements.{is_element}
use Rattle.rules.specs.Group.{orders, paired, derived, generators}
use Rattle.rules.specs.Proofs.{statement_holds}
use Rattle.rules.specs.Tests.{first_fault}
use Rattle.rules.specs.Header.{header, header_fault}
use Rattle.rules.specs.Check.{accepted, check_model, check_small}
use Rattle.rules.specs.Count.{Standing, start, round_number, member, count_of, fewer, pick, majority, closes, is_ranking, table_where, plain_count}
use Rattle.rules.specs.Openings.{without}
use Rattle.rules.specs.Receipts.{same}
use Rattle.rules.specs.Sentences.{bytes, decimal, joined, line, text}
use Rattle.rules.specs.Notice.{is_letter, letters_of, name_from, names_good}
use Rattle.rules.specs.Records.{records_of}
use Rattle.jobs.specs.Job.{Job, counted_rankings as jobRankings, plain_result, record_draws, needed, round_draws, round_at, board_length}
use Rattle.jobs.specs.Board.{board}
use Rattle.jobs.specs.Write.{draws_good, different, no_repeat, Passed, Valid, bad_ranking, board_written, job_refused, write_outcome}
use Rattle.whole.specs.Worked.{small, Pair, circle, two_of_two, in_turn, small_job, audited_job, Circle, Spot, Ties, Told, Screen, Worked}
use Rattle.whole.proofs.Complete.{fixed, written, written_shown}
use Rattle.whole.proofs.Refusals.{count_limit}
use Rattle.whole.proofs.SmallLimits.{small_limits}
use Rattle.whole.proofs.Repeats.{repeats}
use Rattle.whole.specs.Repeats.{Repeat}
use Rattle.rules.proofs.Lists.{length_table, table_at}
use Rattle.rules.proofs.Leaving.{rounds_over}

pair : (x v : ℕ) → x < 11 → v < 11 → Pair x v (paired small x v) (pow_mod 23 3 x)
pair x v a b = record { first = refl; second = refl; opens = record { x_below = a; v_below = b; first = refl; second = refl } }

-- a process still in has more than half of 60
abbrev over_half : Standing → (counts : List ℕ) (i : ℕ) → Bool
over_half st counts i = not (member (suc i) st.gone) && ltb 60 (2 * count_of counts (suc i))

half_open : (n : ℕ) (st : Standing) (counts : List ℕ) → round_number st < n - 1 → ((i : ℕ) → i < n → count_of counts (suc i) ≤ 30) → closes n st counts 60 ≡ false
unfolding closes majority
half_open n st counts early few =
    rw (
      ne_eqb (round_number st) (n - 1) (λ e. omega arith),
      any_fails n (over_half st counts) (λ i l. rw (le-ltb 60 (2 * count_of counts (suc i)) (omega (arith, few i l))) (and-false (not (member (suc i) st.gone)))),
    )

more_closes : (n i : ℕ) (st : Standing) (counts : List ℕ) → i < n → member (suc i) st.gone ≡ false → count_of counts (suc i) ≡ 31 → closes n st counts 60 ≡ true
unfolding closes majority
more_closes n i st counts l still e =
    rw (any_holds n i (over_half st counts) l (rw (still, e))) (or-true (eqb (round_number st) (n - 1)))

module _ (hash : List ℕ → List ℕ) (p q g0 counter : ℕ) (label draws : List ℕ) where
  circle_size : board_length (circle p q g0 counter label draws) ≡ 2537
  unfolding board_length plain_count table_where round_at
  circle_size = refl

  circle_draws : needed (circle p q g0 counter label draws) ≡ 222
  unfolding needed plain_count table_where round_draws
  circle_draws = refl

  goes_around : Valid hash (circle p q g0 counter label draws) → Circle hash (circle p q g0 counter label draws)
  unfolding plain_count table_where
  goes_around v =
      let w = fixed hash (circle p q g0 counter label draws) v in
      record { size = w.measured ∙ circle_size; draws = circle_draws; verdict = w.accepts }

module _ (hash : List ℕ → List ℕ) (p q g0 counter : ℕ) (label rankings draws : List ℕ) where
  -- two processes are counted in one round
  one_round : (plain_result (two_of_two p q g0 counter label rankings draws)).rounds ≡ 1
  unfolding plain_count
  one_round =
      let job = two_of_two p q g0 counter label rankings draws in
      omega (arith, (count_limit 2 0 (jobRankings job) (omega arith)).0, rounds_over 2 (jobRankings job) 2 start)

  two_size : board_length (two_of_two p q g0 counter label rankings draws) ≡ 528
  unfolding board_length round_at
  two_size = rw one_round

small_made : derived sha256 (replicate 32 0) 23 11 2 1 ≡ 3
unfolding derived pow_mod ROTR ¬w Ch Maj Σ₀ Σ₁ σ₀ σ₁ Block.K Block.H₀ Block.word Block.words Block.next Block.schedule Block.T₁ Block.T₂ Block.round Block.rounds Block.sums Block.compress Message.be64 Message.padding Message.padded Message.blocks Message.bytes sha256
small_made = refl

-- the draws of the small group are good
in_turn_good : (count : ℕ) → (leb count (length (in_turn count)) && all_below count (λ d. leb 1 (get_or (in_turn count) d 0) && ltb (get_or (in_turn count) d 0) 11)) ≡ true
in_turn_good count =
    and_true (le-leb count (length (in_turn count)) (omega (arith, length_table count (λ d. d % 10 + 1))))
    (all_true count _ (λ d l. rw (table_at count (λ d. d % 10 + 1) 0 d l) (and_true (le-leb 1 (d % 10 + 1) (omega arith)) (lt-ltb (d % 10 + 1) 11 (omega arith)))))

small_passed : (draws : List ℕ) → Passed sha256 (circle 23 11 2 1 (replicate 32 0) draws)
unfolding orders generators is_prime is_element pow_mod all_below sum_below is_ranking
small_passed draws = record { sized = refl; ordered = refl; labelled = rw small_made; ranked = refl; kinds = refl; some_counted_lem = refl }

small_valid : Valid sha256 small_job
small_valid = record { passed = small_passed (in_turn 222); drawn = rw (circle_draws sha256 23 11 2 1 (replicate 32 0) (in_turn 222)) (in_turn_good 222) }

small_unrepeated : no_repeat small_job ≡ true
unfolding all_below sum_below different plain_count table_where record_draws round_draws records_of
small_unrepeated = refl

small_written : write_outcome sha256 small_job 2537 ≡ board_written 2537 2 (3 ∷ []) 1
unfolding plain_count table_where
small_written =
    let w = written sha256 small_job small_valid small_unrepeated in
    let l = w.is_accepted.measured ∙ circle_size sha256 23 11 2 1 (replicate 32 0) (in_turn 222) in
    w.replies 2537 (omega (arith, l)) ∙ ap (λ (size : ℕ). board_written size 2 (3 ∷ []) 1) l

-- the same with all draws equal
abbrev equal_job : Job
equal_job = circle 23 11 2 1 (replicate 32 0) (replicate 222 5)

equal_drawn : draws_good equal_job ≡ true
unfolding all_below
equal_drawn = rw (circle_draws sha256 23 11 2 1 (replicate 32 0) (replicate 222 5))

equal_repeats : Repeat equal_job
unfolding plain_count table_where round_draws sum_below records_of
equal_repeats = record { m = 0; k = 0; i = 0; j = 1; in_rounds = omega arith; in_ballots = omega arith; earlier = omega arith; in_matrix = omega arith; equal = refl }

small_refused : write_outcome sha256 equal_job 2537 ≡ job_refused 20 0
unfolding write_outcome bad_ranking
small_refused = rw (((repeats sha256).due_iff equal_job 2537).1 (record { passed = small_passed (replicate 222 5); drawn = equal_drawn }, equal_repeats))

spot_draws : needed audited_job ≡ 190
unfolding needed plain_count table_where round_draws
spot_draws = refl

spot_size : board_length audited_job ≡ 2224
unfolding board_length plain_count table_where round_at
spot_size = refl

spot_valid : Valid sha256 audited_job
unfolding orders generators is_prime is_element pow_mod all_below sum_below is_ranking
spot_valid = record { passed = record { sized = refl; ordered = refl; labelled = rw small_made; ranked = refl; kinds = refl; some_counted_lem = refl }; drawn = rw spot_draws (in_turn_good 190) }

spot_unrepeated : no_repeat audited_job ≡ true
unfolding all_below sum_below different plain_count table_where record_draws round_draws records_of
spot_unrepeated = refl

spotted : Spot
unfolding plain_count table_where
spotted =
    let w = fixed sha256 audited_job spot_valid in
    record {
      valid = spot_valid;
      unrepeated = spot_unrepeated;
      size = w.measured ∙ spot_size;
      draws = spot_draws;
      verdict = w.accepts;
      shown = (written_shown sha256 audited_job spot_valid 1 (omega arith) refl).0;
    }

tied : Ties
unfolding fewer pick plain_count
tied =
    record {
      before_out = refl;
      before_wins = refl;
      first_out = refl;
      first_wins = refl;
      three_out = refl;
      three_win = refl;
      number_out = refl;
      number_wins = refl;
      plain_out = refl;
      plain_wins = refl;
    }

sentences : Told
unfolding text line bytes decimal joined table_where member concat_below plain_count names_good name_from letters_of is_letter same all_below
sentences =
    record {
      wins_line = refl;
      leaves_line = refl;
      circle_told = refl;
      good = refl;
      case_differs = refl;
      equal = refl;
      one_missing = refl;
      one_more = refl;
      no_feed = refl;
      no_letters = refl;
      no_letter = refl;
      of_20 = refl;
      of_21 = refl;
    }

small_shown : check_small sha256 (board sha256 small_job) ≡ accepted 2 (3 ∷ []) 1
small_shown =
    (small_limits sha256).within (board sha256 small_job) (rw (fixed sha256 small_job small_valid).heads (record { shown = omega arith; stored = omega arith }))
    ∙ (goes_around sha256 23 11 2 1 (replicate 32 0) (in_turn 222) small_valid).verdict

screened : Screen
unfolding check_model header_fault header first_fault orders is_prime
screened =
    record {
      at_the_limits = λ hash. (refl, refl);
      six_processes = λ hash. (refl, refl);
      ballots_201 = λ hash. (refl, refl);
      largest = λ hash. (refl, refl);
      out_of_range = λ hash. (refl, refl);
      no_ballot = λ hash. (refl, refl);
      old_mark = λ hash. (refl, refl);
      cut_short = λ hash. (refl, refl);
      small_shown = small_shown;
    }

pub worked : Worked
unfolding statement_holds pow_mod closes fewer pick without plain_count
worked =
    record {
      five_one = pair 5 1 (omega arith) (omega arith);
      five_zero = pair 5 0 (omega arith) (omega arith);
      seven_one = pair 7 1 (omega arith) (omega arith);
      product = (refl, refl);
      product_tally = pair 1 2 (omega arith) (omega arith);
      met = refl;
      unmet = refl;
      goes_out = (refl, refl);
      half = half_open;
      more = more_closes;
      struck = refl;
      each_way = refl;
      two_of_two_lem = λ hash p q g0 counter label rankings draws v.
          (fixed hash (two_of_two p q g0 counter label rankings draws) v).measured ∙ two_size hash p q g0 counter label rankings draws;
      around = goes_around;
      made = small_made;
      small_valid = small_valid;
      small_around = goes_around sha256 23 11 2 1 (replicate 32 0) (in_turn 222) small_valid;
      small_written = small_written;
      small_refused = small_refused;
      spot = spotted;
      ties = tied;
      told = sentences;
      screen = screened;
    }
