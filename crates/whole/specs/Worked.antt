-- The starred cases of "Tried by hand", each said of the definitions, in one table, with p = 23, q = 11, g0 = 2 and g1 = 3; and equal counts,
-- sentences and the screen's limits (02).
use Rattle.std.specs.Prelude.{ℕ, suc, ◌+◌, ◌-◌, ◌%◌, ◌≤◌, ◌<◌, ◌≡◌, true, false, List, [], ◌∷◌, ◌++◌, length, take, replicate}
use Rattle.sha256.specs.Message.{sha256}
use Rattle.group.specs.Arithmetic.{mul_mod, pow_mod}
use Rattle.group.specs.Elements.{Parameters}
use Rattle.rules.specs.Bytes.{bytes2}
use Rattle.rules.specs.Group.{paired, derived}
use Rattle.rules.specs.Records.{HF}
use Rattle.rules.specs.Proofs.{statement_holds}
use Rattle.rules.specs.Count.{table, Standing, round_number, start, member, count_of, leaves, wins, closes, plain_count}
use Rattle.rules.specs.Check.{accepted, refused, check_board, check_small}
use Rattle.rules.specs.Openings.{Opening, without}
use Rattle.rules.specs.Sentences.{bytes, line, text}
use Rattle.rules.specs.Notice.{name_of, names_good}
use Rattle.jobs.specs.Job.{Job, needed}
use Rattle.jobs.specs.Board.{board}
use Rattle.jobs.specs.Write.{no_repeat, Valid, board_written, job_refused, write_outcome}
use Rattle.whole.specs.Audited.{ranking_shown}

abbrev pub small : Parameters
small = record { p = 23; q = 11; g0 = 2; g1 = 3 }

-- x and v give the pair (b, y), and it opens to them
pub record Pair (x v b y : ℕ) : Type 0 where
  pub first : paired small x v ≡ b
  pub second : pow_mod 23 3 x ≡ y
  pub opens : Opening small b y x v

-- a job of the rankings (1,2,3), (2,3,1), (3,1,2), all counted
abbrev pub circle : (p q g0 counter : ℕ) (label draws : List ℕ) → Job
circle p q g0 counter label draws =
    record {
      n = 3;
      K = 3;
      p = p;
      q = q;
      g0 = g0;
      counter = counter;
      label = label;
      rankings = 1 ∷ 2 ∷ 3 ∷ 2 ∷ 3 ∷ 1 ∷ 3 ∷ 1 ∷ 2 ∷ [];
      kinds = 0 ∷ 0 ∷ 0 ∷ [];
      draws = draws;
    }

-- a job of two counted ballots of two processes
abbrev pub two_of_two : (p q g0 counter : ℕ) (label rankings draws : List ℕ) → Job
two_of_two p q g0 counter label rankings draws =
    record { n = 2; K = 2; p = p; q = q; g0 = g0; counter = counter; label = label; rankings = rankings; kinds = 0 ∷ 0 ∷ []; draws = draws }

-- draws in the small group: 1 to 10 in turn, again and again, so that any 9 in a row differ
abbrev pub in_turn : (count : ℕ) → List ℕ
in_turn count = table count (λ d. d % 10 + 1)

-- a job in it: SHA-256 makes g1 = 3 of a label of 32 zeros and counter 1
abbrev pub small_job : Job
small_job = circle 23 11 2 1 (replicate 32 0) (in_turn 222)

-- "2,534 bytes, 222 draws", with a kind byte in each BA 2,537 (02, L5), and the verdict that boardcheck prints
pub record Circle (hash : List ℕ → List ℕ) (job : Job) : Type 0 where
  pub size : length (board hash job) ≡ 2537
  pub draws : needed job ≡ 222
  pub verdict : check_board hash (board hash job) ≡ accepted 2 (3 ∷ []) 1

-- the same rankings in the small group with the second ballot audited (02, L5): counted are (1,2,3) and (3,1,2), and the second shows (2,3,1)
abbrev pub audited_job : Job
audited_job =
    record {
      n = 3;
      K = 3;
      p = 23;
      q = 11;
      g0 = 2;
      counter = 1;
      label = replicate 32 0;
      rankings = 1 ∷ 2 ∷ 3 ∷ 2 ∷ 3 ∷ 1 ∷ 3 ∷ 1 ∷ 2 ∷ [];
      kinds = 0 ∷ 1 ∷ 0 ∷ [];
      draws = in_turn 190;
    }

-- what is written for it, and the verdict
pub record Spot : Type 0 where
  pub valid : Valid sha256 audited_job
  pub unrepeated : no_repeat audited_job ≡ true
  pub size : length (board sha256 audited_job) ≡ 2224
  pub draws : needed audited_job ≡ 190
  pub verdict : check_board sha256 (board sha256 audited_job) ≡ accepted 2 (2 ∷ []) 1
  pub shown : ranking_shown (board sha256 audited_job) 1 ≡ 2 ∷ 3 ∷ 1 ∷ []

-- those gone out, and the sheets of the rounds so far
abbrev pub after : (gone : List ℕ) (sheets : List (List ℕ)) → Standing
after gone sheets = record { gone = gone; sheets = sheets }

-- rankings of 5 processes, and of 4
abbrev pub twelve_rankings : List (List ℕ)
twelve_rankings =
    (4 ∷ 2 ∷ 5 ∷ 3 ∷ 1 ∷ []) ∷ (3 ∷ 1 ∷ 2 ∷ 4 ∷ 5 ∷ []) ∷ (3 ∷ 5 ∷ 1 ∷ 4 ∷ 2 ∷ []) ∷ (5 ∷ 4 ∷ 2 ∷ 1 ∷ 3 ∷ []) ∷
    (3 ∷ 5 ∷ 1 ∷ 2 ∷ 4 ∷ []) ∷ (2 ∷ 1 ∷ 5 ∷ 3 ∷ 4 ∷ []) ∷ (3 ∷ 5 ∷ 2 ∷ 1 ∷ 4 ∷ []) ∷ (1 ∷ 4 ∷ 2 ∷ 3 ∷ 5 ∷ []) ∷
    (1 ∷ 5 ∷ 2 ∷ 3 ∷ 4 ∷ []) ∷ (5 ∷ 1 ∷ 2 ∷ 4 ∷ 3 ∷ []) ∷ (1 ∷ 4 ∷ 3 ∷ 5 ∷ 2 ∷ []) ∷ (2 ∷ 1 ∷ 3 ∷ 4 ∷ 5 ∷ []) ∷ []

abbrev pub ten_rankings : List (List ℕ)
ten_rankings =
    (2 ∷ 3 ∷ 1 ∷ 4 ∷ []) ∷ (3 ∷ 1 ∷ 2 ∷ 4 ∷ []) ∷ (1 ∷ 4 ∷ 3 ∷ 2 ∷ []) ∷ (2 ∷ 4 ∷ 1 ∷ 3 ∷ []) ∷ (2 ∷ 1 ∷ 4 ∷ 3 ∷ []) ∷
    (1 ∷ 2 ∷ 4 ∷ 3 ∷ []) ∷ (1 ∷ 3 ∷ 4 ∷ 2 ∷ []) ∷ (4 ∷ 3 ∷ 1 ∷ 2 ∷ []) ∷ (3 ∷ 2 ∷ 1 ∷ 4 ∷ []) ∷ (4 ∷ 3 ∷ 1 ∷ 2 ∷ []) ∷ []

-- "Equal lowest counts", and the winner among equal highest
pub record Ties : Type 0 where
  -- two are equal in round 3, and round 2 decides; round 1 would decide otherwise, and so would the number
  pub before_out : leaves 5 (after (5 ∷ 4 ∷ []) ((3 ∷ 4 ∷ 2 ∷ 2 ∷ 2 ∷ []) ∷ (3 ∷ 4 ∷ 4 ∷ 2 ∷ 0 ∷ []) ∷ [])) (4 ∷ 5 ∷ 4 ∷ 0 ∷ 0 ∷ []) ≡ 1
  pub before_wins : wins 4 (after (4 ∷ 2 ∷ []) ((3 ∷ 3 ∷ 2 ∷ 2 ∷ []) ∷ (3 ∷ 3 ∷ 4 ∷ 0 ∷ []) ∷ [])) (5 ∷ 0 ∷ 5 ∷ 0 ∷ []) ≡ 3
  -- they are equal in round 2 too: only round 1 decides
  pub first_out : leaves 5 (after (5 ∷ 1 ∷ []) ((1 ∷ 1 ∷ 2 ∷ 2 ∷ 1 ∷ []) ∷ (1 ∷ 2 ∷ 2 ∷ 2 ∷ 0 ∷ []) ∷ [])) (0 ∷ 2 ∷ 2 ∷ 3 ∷ 0 ∷ []) ≡ 2
  pub first_wins : wins 4 (after (3 ∷ 4 ∷ []) ((2 ∷ 3 ∷ 1 ∷ 2 ∷ []) ∷ (3 ∷ 3 ∷ 0 ∷ 2 ∷ []) ∷ [])) (4 ∷ 4 ∷ 0 ∷ 0 ∷ []) ≡ 2
  -- three are equal in round 3: round 2 leaves two of them, and round 1 decides
  pub three_out : leaves 5 (after (4 ∷ 5 ∷ []) ((3 ∷ 2 ∷ 4 ∷ 1 ∷ 2 ∷ []) ∷ (3 ∷ 3 ∷ 4 ∷ 0 ∷ 2 ∷ []) ∷ [])) (4 ∷ 4 ∷ 4 ∷ 0 ∷ 0 ∷ []) ≡ 2
  pub three_win : wins 5 (after (4 ∷ 5 ∷ []) ((3 ∷ 4 ∷ 5 ∷ 0 ∷ 0 ∷ []) ∷ (4 ∷ 4 ∷ 3 ∷ 0 ∷ 1 ∷ []) ∷ [])) (4 ∷ 4 ∷ 4 ∷ 0 ∷ 0 ∷ []) ≡ 2
  -- "Only if all rounds agree does the highest number go out"; "lowest number last"
  pub number_out : leaves 4 (after (3 ∷ []) ((1 ∷ 2 ∷ 0 ∷ 1 ∷ []) ∷ [])) (1 ∷ 2 ∷ 0 ∷ 1 ∷ []) ≡ 4
  pub number_wins : wins 4 (after (3 ∷ 1 ∷ []) ((0 ∷ 2 ∷ 0 ∷ 2 ∷ []) ∷ (0 ∷ 2 ∷ 0 ∷ 2 ∷ []) ∷ [])) (0 ∷ 2 ∷ 0 ∷ 2 ∷ []) ≡ 2
  -- "The plain count that accepted boards are held to uses this rule too": with the ties of `three_out`, and with those of `before_wins`
  pub plain_out : plain_count 5 twelve_rankings ≡
      record { rounds = 4; counts = (3 ∷ 2 ∷ 4 ∷ 1 ∷ 2 ∷ []) ∷ (3 ∷ 3 ∷ 4 ∷ 0 ∷ 2 ∷ []) ∷ (4 ∷ 4 ∷ 4 ∷ 0 ∷ 0 ∷ []) ∷ (7 ∷ 0 ∷ 5 ∷ 0 ∷ 0 ∷ []) ∷ []; order = 4 ∷ 5 ∷ 2 ∷ []; winner = 1 }
  pub plain_wins : plain_count 4 ten_rankings ≡
      record { rounds = 3; counts = (3 ∷ 3 ∷ 2 ∷ 2 ∷ []) ∷ (3 ∷ 3 ∷ 4 ∷ 0 ∷ []) ∷ (5 ∷ 0 ∷ 5 ∷ 0 ∷ []) ∷ []; order = 4 ∷ 2 ∷ []; winner = 3 }

-- names, as they are lent
abbrev pub three_names : List ℕ
three_names = bytes "Skyr\nQuark\nFeta\n"

-- sentences (02, L7)
pub record Told : Type 0 where
  -- "as "Round 2: Skyr counts 5, Quark counts 4; Skyr wins."", where the third of three went out in round 1; "or "Quark leaves.""
  pub wins_line : line 3 (name_of three_names) (record { rounds = 2; counts = (4 ∷ 3 ∷ 2 ∷ []) ∷ (5 ∷ 4 ∷ 0 ∷ []) ∷ []; order = 3 ∷ []; winner = 1 }) 1
      ≡ bytes "Round 2: Skyr counts 5, Quark counts 4; Skyr wins.\n"
  pub leaves_line : line 3 (name_of three_names) (record { rounds = 2; counts = (10 ∷ 9 ∷ 100 ∷ []) ∷ (19 ∷ 0 ∷ 100 ∷ []) ∷ []; order = 2 ∷ []; winner = 3 }) 0
      ≡ bytes "Round 1: Skyr counts 10, Quark counts 9, Feta counts 100; Quark leaves.\n"
  -- the count of (1,2,3), (2,3,1), (3,1,2)
  pub circle_told : text 3 (name_of three_names) (plain_count 3 ((1 ∷ 2 ∷ 3 ∷ []) ∷ (2 ∷ 3 ∷ 1 ∷ []) ∷ (3 ∷ 1 ∷ 2 ∷ []) ∷ []))
      ≡ bytes "Round 1: Skyr counts 1, Quark counts 1, Feta counts 1; Feta leaves.\nRound 2: Skyr counts 2, Quark counts 1; Skyr wins.\n"
  -- "Names are 1 to 20 letters A to Z and a to z, one per process, all different, each lent with a line feed after it."
  pub good : names_good three_names 3 ≡ true
  pub case_differs : names_good (bytes "Skyr\nskyr\n") 2 ≡ true
  pub equal : names_good (bytes "Skyr\nSkyr\n") 2 ≡ false
  pub one_missing : names_good (bytes "Skyr\n") 2 ≡ false
  pub one_more : names_good three_names 2 ≡ false
  pub no_feed : names_good (bytes "Skyr\nQuark") 2 ≡ false
  pub no_letters : names_good (bytes "\nQuark\n") 2 ≡ false
  pub no_letter : names_good (bytes "Skyr 2\nQuark\n") 2 ≡ false
  pub of_20 : names_good (bytes "abcdefghijklmnopqrst\nQuark\n") 2 ≡ true
  pub of_21 : names_good (bytes "abcdefghijklmnopqrstu\nQuark\n") 2 ≡ false

-- a header with a mark, n and K, and zeros behind them, so that 4 is due to it if nothing before is
abbrev pub header_only : (mark : List ℕ) (n K : ℕ) → List ℕ
header_only mark n K = mark ++ (n ∷ bytes2 K) ++ replicate 49 0

-- the refusals of a board for the screen and for the box, each with 0
abbrev pub Refused : (s : List ℕ) (screen box : ℕ) → Type 0
Refused s screen box = (hash : List ℕ → List ℕ) → (check_small hash s ≡ refused screen 0) × (check_board hash s ≡ refused box 0)

-- "It refuses with 23 a header past 5 or 200 but within 3, right after 3." (02, L12)
pub record Screen : Type 0 where
  pub at_the_limits : Refused (header_only HF 5 200) 4 4
  pub six_processes : Refused (header_only HF 6 200) 23 4
  pub ballots_201 : Refused (header_only HF 5 201) 23 4
  pub largest : Refused (header_only HF 8 1000) 23 4
  pub out_of_range : Refused (header_only HF 9 201) 3 3
  pub no_ballot : Refused (header_only HF 6 0) 3 3
  pub old_mark : Refused (header_only (72 ∷ 68 ∷ []) 6 201) 2 2
  pub cut_short : Refused (take 53 (header_only HF 6 201)) 1 1
  pub small_shown : check_small sha256 (board sha256 small_job) ≡ accepted 2 (3 ∷ []) 1

pub record Worked : Type 0 where
  -- "x = 5, v = 1 gives (4, 13)", "x = 5, v = 0 gives (9, 13)", "x = 7, v = 1 gives (16, 2)"
  pub five_one : Pair 5 1 4 13
  pub five_zero : Pair 5 0 9 13
  pub seven_one : Pair 7 1 16 2
  -- "(4, 13) times (16, 2) is (18, 3): count 2, s 1"
  pub product : (mul_mod 23 4 16 ≡ 18) × (mul_mod 23 13 2 ≡ 3)
  pub product_tally : Pair 1 2 18 3
  -- "(9, 13) with t1 16, t2 12, e 3, r 8 meets both equations of a statement", "with r 7 it does not"
  pub met : statement_holds 23 2 3 (record { left = 9; right = 13 }) 16 12 3 8 ≡ true
  pub unmet : statement_holds 23 2 3 (record { left = 9; right = 13 }) 16 12 3 7 ≡ false
  -- "Counts 8, 17, 16, 19 of 60: 1 goes out"
  pub goes_out : (closes 4 start (8 ∷ 17 ∷ 16 ∷ 19 ∷ []) 60 ≡ false) × (leaves 4 start (8 ∷ 17 ∷ 16 ∷ 19 ∷ []) ≡ 1)
  -- "Before round n−1, 30 of 60 does not close, 31 does", whoever has gone out
  pub half : (n : ℕ) (st : Standing) (counts : List ℕ) → round_number st < n - 1 → ((i : ℕ) → i < n → count_of counts (suc i) ≤ 30) → closes n st counts 60 ≡ false
  pub more : (n i : ℕ) (st : Standing) (counts : List ℕ) → i < n → member (suc i) st.gone ≡ false → count_of counts (suc i) ≡ 31 → closes n st counts 60 ≡ true
  -- "Ranking (4, 2, 1, 3) without 4, then 1, is (2, 3)"
  pub struck : without 1 (without 4 (4 ∷ 2 ∷ 1 ∷ 3 ∷ [])) ≡ 2 ∷ 3 ∷ []
  -- "n = 2, one ballot each way: closes in round 1, winner 1"
  pub each_way : plain_count 2 ((1 ∷ 2 ∷ []) ∷ (2 ∷ 1 ∷ []) ∷ []) ≡ record { rounds = 1; counts = (1 ∷ 1 ∷ []) ∷ []; order = []; winner = 1 }
  -- "n = 2, K = 2: 526 bytes", which become 528 (02, L5): whatever the rankings
  pub two_of_two_lem : (hash : List ℕ → List ℕ) (p q g0 counter : ℕ) (label rankings draws : List ℕ) →
      Valid hash (two_of_two p q g0 counter label rankings draws) → length (board hash (two_of_two p q g0 counter label rankings draws)) ≡ 528
  -- "Rankings (1,2,3), (2,3,1), (3,1,2)", in any valid group, and in the small one
  pub around : (hash : List ℕ → List ℕ) (p q g0 counter : ℕ) (label draws : List ℕ) →
      Valid hash (circle p q g0 counter label draws) → Circle hash (circle p q g0 counter label draws)
  pub made : derived sha256 (replicate 32 0) 23 11 2 1 ≡ 3
  pub small_valid : Valid sha256 small_job
  pub small_around : Circle sha256 small_job
  -- which is written; with all draws equal 20 is due (02, L6)
  pub small_written : write_outcome sha256 small_job 2537 ≡ board_written 2537 2 (3 ∷ []) 1
  pub small_refused : write_outcome sha256 (circle 23 11 2 1 (replicate 32 0) (replicate 222 5)) 2537 ≡ job_refused 20 0
  -- one ballot audited
  pub spot : Spot
  -- equal counts
  pub ties : Ties
  -- sentences
  pub told : Told
  -- the screen's limits
  pub screen : Screen
