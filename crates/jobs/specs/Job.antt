-- What the writer is given, and what follows from it: rankings, draws, the plain count and the board's length.
use Prim.Native.Nat.{ℕ, zero, suc, ◌+◌, ◌*◌, ◌-◌}
use Rattle.std.specs.Prelude.{cond, List, [], ◌∷◌, eqb, get_or}
use Rattle.numbers.specs.Below.{sum_below}
use Rattle.group.specs.Elements.{Parameters}
use Rattle.rules.specs.Bytes.{part}
use Rattle.rules.specs.Group.{derived}
use Rattle.rules.specs.Records.{is_counted, records_of, header_length, record_length, sheet_length}
use Rattle.rules.specs.Count.{Result, table_where, member, plain_count}
use Rattle.rules.specs.Header.{Header}

-- "The writer is given n, K, p, q, g0, a counter of any value, label, rankings (a byte a place, one ranking after another) and draws (numbers of 32 bits)";
-- 02, L5: "The writer is given a kind per ballot."
pub record Job : Type 0 where
  pub n : ℕ
  pub K : ℕ
  pub p : ℕ
  pub q : ℕ
  pub g0 : ℕ
  pub counter : ℕ
  pub label : List ℕ
  pub rankings : List ℕ
  pub kinds : List ℕ
  pub draws : List ℕ

-- "BA needs 4n² + 2n, SH needs Rn + (R+1)(2 + Rn) + R."
abbrev pub ballot_draws : (n : ℕ) → ℕ
ballot_draws n = 4 * (n * n) + 2 * n

abbrev pub shift_draws : (n R : ℕ) → ℕ
shift_draws n R = R * n + (R + 1) * (2 + R * n) + R

-- of what a ballot of a kind has in round m; 02, L5: an audited ballot "has no SH"
unfoldable pub record_draws : (n kind m : ℕ) → ℕ
record_draws n kind zero = ballot_draws n
record_draws n kind (suc m) = cond (is_counted kind) (shift_draws n (n - suc m)) 0

-- how many of a record's draws are x, "per record one x a pair": n² of a BA, R × n of a SH
abbrev pub record_secrets : (n kind m : ℕ) → ℕ
record_secrets n kind m = records_of kind m * ((n - m) * n)

-- over n processes and the kinds of K ballots
module _ (n : ℕ) (kind : ℕ → ℕ) where
  -- "Draws are used in board order": those of the rounds before m, and where those of ballot k's record in round m start
  unfoldable pub round_draws : (K m : ℕ) → ℕ
  unfolding record_draws sum_below
  round_draws K zero = 0
  round_draws K (suc m) = round_draws K m + sum_below K (λ k. record_draws n (kind k) m)

  abbrev pub draws_at : (K m k : ℕ) → ℕ
  draws_at K m k = round_draws K m + sum_below k (λ i. record_draws n (kind i) m)

  -- the bytes of a header and m rounds
  unfoldable pub round_at : (K m : ℕ) → ℕ
  unfolding record_length sum_below
  round_at K zero = header_length
  round_at K (suc m) = round_at K m + sum_below K (λ k. record_length n (kind k) m) + sheet_length n

-- those of a ranking that are still in
unfoldable pub remaining : (gone ranking : List ℕ) → List ℕ
remaining gone [] = []
remaining gone (c ∷ cs) = cond (member c gone) (remaining gone cs) (c ∷ remaining gone cs)

-- the place of a process on a list of different ones
unfoldable pub row_of : ℕ → List ℕ → ℕ
row_of c [] = 0
row_of c (x ∷ xs) = cond (eqb c x) 0 (suc (row_of c xs))

module _ (job : Job) where
  abbrev pub ranking_of : (k : ℕ) → List ℕ
  ranking_of k = part job.rankings (k * job.n) job.n

  abbrev pub kind_of : (k : ℕ) → ℕ
  kind_of k = get_or job.kinds k 0

  abbrev pub draw : (d : ℕ) → ℕ
  draw d = get_or job.draws d 0

  -- the process of each row of ballot k, those gone out struck; 0 past the last
  abbrev pub rows_of : (gone : List ℕ) (k : ℕ) → ℕ → ℕ
  rows_of gone k i = get_or (remaining gone (ranking_of k)) i 0

  -- how many of the first k ballots are counted; and the rankings of all that are; 02, L5: "The plain result now concerns counted rankings"
  abbrev pub counted_below : (k : ℕ) → ℕ
  counted_below k = sum_below k (λ i. cond (is_counted (kind_of i)) 1 0)

  abbrev pub counted_rankings : List (List ℕ)
  counted_rankings = table_where job.K (λ k. is_counted (kind_of k)) ranking_of

  abbrev pub plain_result : Result
  plain_result = plain_count job.n counted_rankings

  unfoldable pub needed : ℕ
  needed = round_draws job.n kind_of job.K plain_result.rounds

  unfoldable pub board_length : ℕ
  board_length = round_at job.n kind_of job.K plain_result.rounds

-- the writer "works out g1"
abbrev pub group_of : (hash : List ℕ → List ℕ) → Job → Parameters
group_of hash job = record { p = job.p; q = job.q; g0 = job.g0; g1 = derived hash job.label job.p job.q job.g0 job.counter }

-- the header of the job's board
abbrev pub header_of : (hash : List ℕ → List ℕ) → Job → Header
header_of hash job = record { n = job.n; K = job.K; group = group_of hash job; label = job.label }
