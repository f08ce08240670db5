-- Whatever job has no refusal, its board is accepted, with the plain count's rounds, order, winner and counts.
pub mod Honest
pub mod Claims
pub mod Written
pub mod WrittenShift
pub mod BallotRecord
pub mod ShiftRecord
pub mod SheetRecord
pub mod Rounds
use Prim.Native.Nat.{ℕ, suc, ◌+◌, ◌-◌, ◌<◌, zero-le}
use native.Mathlib.Nat.{mod-lt, zero-add}
use native.Mathlib.Omega.{arith}
use mathlib.Core.Path.{subst, subst⁻¹, ◌≡◌, sym, refl, ◌∙◌}
use mathlib.Core.Bool.{true, and-eq-true_iff}
use mathlib.Core.List.{List, [], ◌∷◌, ◌++◌}
use lib.ListN.{length, get_or, length-append}
use borrow.Author.Tests.{ltb-true}
use Rattle.rules.specs.Bytes.{number2, number4, bytes2, bytes4, Stands}
use Rattle.group.specs.Elements.{Parameters, is_element}
use Rattle.rules.specs.Group.{generators, derived}
use Rattle.group.specs.Arithmetic.{pow_mod}
use Rattle.rules.specs.Records.{HF, has_mark, is_counted, is_audited}
use Rattle.rules.specs.Count.{start, is_ranking, table_where, plain_count}
use Rattle.rules.specs.Audit.{shown_exponent, shown_ranking}
use Rattle.rules.specs.Header.{ranked, sizes, header}
use Rattle.rules.specs.Check.{check_from, accepted, check_model, check_board, place, kind, matrix}
use Rattle.jobs.specs.Records.{secret_at}
use Rattle.jobs.specs.Job.{counted_rankings as jobRankings, Job, group_of, header_of, ranking_of, kind_of, round_at, board_length, plain_result}
use Rattle.jobs.specs.Board.{job_draws, job_ballot, record_bytes, rounds_from, board}
use Rattle.whole.specs.Rules.{HeaderRules}
use Rattle.whole.specs.Audited.{exponent_of, ranking_shown}
use Rattle.whole.specs.ThirdDemand.{counted_rankings, IsAccepted, IsWritten, IsPlain}
use Rattle.whole.proofs.Rules.{header_rules}
use Rattle.jobs.specs.Write.{no_repeat, Valid, write_outcome}
use Rattle.jobs.proofs.FineJob.{no_refusal, Fine, fine, good_group}
use Rattle.rules.specs.Openings.{Opens, OpensTo, list_at}
use Rattle.whole.proofs.Sound.{sound}
use Rattle.rules.proofs.Elements.{Good}
use Rattle.jobs.proofs.Lists.{standing_all}
use Rattle.whole.proofs.Complete.Rounds.{Reach, kinds_read, rounds, record_stands}
use Rattle.rules.proofs.Places.{stands_whole, stands_left, stands_right, half_stands, word_stands, part_stands}
use Rattle.rules.proofs.Limits.{sizes_in, ranked_unlimited, never_past}
use Rattle.jobs.proofs.Counting.{first_reached, in_rounds}
use Rattle.whole.proofs.Complete.BallotRecord.{exponent_read, ranking_read}
use Rattle.jobs.proofs.Positions.{round_is, round_same}
use Rattle.rules.proofs.Lists.{where_same}

module _ (hash : List ℕ → List ℕ) (job : Job) (f : Fine hash job) where
  abbrev g : Parameters
  g = group_of hash job

  abbrev s : List ℕ
  s = board hash job

  abbrev later : List ℕ
  later = rounds_from hash job g job.n start 0 [] 0

  good : Good g
  good = good_group hash job f

  -- ---- the header
  g0_below : job.g0 < job.p
  unfolding generators is_element
  g0_below = let w = simp and-eq-true_iff at f.generated in ltb-true job.g0 job.p w.0.0.0.0.0.0.1

  g1_below : g.g1 < job.p
  unfolding derived pow_mod
  g1_below = mod-lt _ (omega (arith, good.large))

  -- a number of four bytes behind the first bytes of the board
  word_behind : (front : List ℕ) (x : ℕ) (rest : List ℕ) → x < 4294967296 → front ++ (bytes4 x ++ rest) ≡ s → number4 s (length front) ≡ x
  word_behind front x rest l e =
      rw zero-add at (word_stands l (stands_left (bytes4 x) rest (stands_right front (bytes4 x ++ rest) refl (subst (Stands s 0) (sym e) (stands_whole s)))))

  fields : (has_mark s 0 HF ≡ true) × (get_or s 2 0 ≡ job.n) × (number2 s 3 ≡ job.K) × (number4 s 5 ≡ job.p) × (number4 s 9 ≡ job.q)
      × (number4 s 13 ≡ job.g0) × (get_or s 17 0 ≡ job.counter) × (number4 s 18 ≡ g.g1)
  unfolding board
  fields =
      let front : List ℕ = 72 ∷ 70 ∷ job.n ∷ bytes2 job.K in (
        refl,
        refl,
        half_stands (omega (arith, f.K_high)) (stands_left (bytes2 job.K) _ (stands_right (72 ∷ 70 ∷ job.n ∷ []) _ refl (stands_whole s))),
        word_behind front job.p _ (omega (arith, good.small)) refl,
        word_behind (front ++ bytes4 job.p) job.q _ (omega (arith, good)) refl,
        word_behind (front ++ bytes4 job.p ++ bytes4 job.q) job.g0 _ (omega (arith, g0_below, good.small)) refl,
        refl,
        word_behind (front ++ bytes4 job.p ++ bytes4 job.q ++ bytes4 job.g0 ++ (job.counter ∷ [])) g.g1 _ (omega (arith, g1_below, good.small)) refl,
      )

  after_g1 : Stands s 22 (job.label ++ later)
  unfolding board
  after_g1 =
      stands_right (72 ∷ 70 ∷ job.n ∷ bytes2 job.K ++ bytes4 job.p ++ bytes4 job.q ++ bytes4 job.g0 ++ (job.counter ∷ []) ++ bytes4 g.g1) _ refl (stands_whole s)

  pub header_same : header s ≡ header_of hash job
  unfolding header
  header_same =
      let r = fields in
      rw (r.1, r.2, r.3, r.4, r.5, r.7, part_stands f.labelled (stands_left job.label later after_g1))

  long : length s ≡ 54 + length later
  unfolding board
  long = omega (arith, length-append job.label later, f.labelled)

  sizes_kept : sizes ranked (header s).n (header s).K ≡ true
  sizes_kept = rw header_same (sizes_in ranked job.n job.K f.n_low f.n_high f.K_low f.K_high)

  header_kept : HeaderRules hash ranked s
  header_kept =
      record {
        fits = omega (arith, long);
        marked = fields.0;
        sized = sizes_kept;
        limited = never_past ranked ranked_unlimited (header s).n (header s).K sizes_kept;
        ordered = rw header_same f.ordered;
        generated = rw (header_same, fields.6) f.generated;
      }

  pub begun : Reach hash job s job.n start 0 [] 0
  unfolding round_at list_at
  begun =
      record {
        count = first_reached job f.ranked f.n_low;
        listed = λ k. sym (standing_all (ranking_of job k));
        prior = refl;
        rest = stands_right job.label later f.labelled after_g1;
        whole = long;
      }

  -- with its first round ahead
  pub starts : Reach hash job s (suc (job.n - 1)) start 0 [] 0
  starts = let rounds : job.n ≡ suc (job.n - 1) = omega (arith, f.n_low) in subst (λ (n : ℕ). Reach hash job s n start 0 [] 0) rounds begun

  pub kinds_same : (k : ℕ) → k < job.K → kind s (header_of hash job) k ≡ kind_of job k
  kinds_same = kinds_read hash job s f (job.n - 1) starts

  -- where each ballot's record stands
  pub ballot_stands : (k : ℕ) → k < job.K → Stands s (place s (header_of hash job) 0 k) (job_ballot hash job g k)
  unfolding record_bytes
  ballot_stands k l = record_stands hash job s f header_same kinds_same (job.n - 1) start 0 [] 0 starts k l

  pub in_first : 0 < (plain_result job).rounds
  in_first = in_rounds job f.ranked starts.count

pub fixed : (hash : List ℕ → List ℕ) (job : Job) → Valid hash job → IsAccepted hash job (board hash job) (plain_result job)
unfolding check_model board_length
fixed hash job v =
    let f = fine hash job v in
    let s = board hash job in
    let r = plain_result job in
    let e = header_same hash job f in
    let kinds : (k : ℕ) → k < job.K → kind s (header s) k ≡ kind_of job k = subst⁻¹ (λ h. (k : ℕ) → k < job.K → kind s h k ≡ kind_of job k) e (kinds_same hash job f) in
    let w = rounds hash job s f e (kinds_same hash job f) job.n start 0 [] 0 (begun hash job f) in
    let a : check_board hash s ≡ accepted r.rounds r.order r.winner =
    rw ((header_rules hash ranked s).1 (header_kept hash job f)) (subst⁻¹ (λ h. check_from hash s h h.n start 0 0 ≡ accepted r.rounds r.order r.winner) e w.0) in
    let o : Opens s (ranking_of job) r.rounds =
    record {
      full = subst⁻¹ (λ h. (k : ℕ) → k < h.K → is_counted (kind s h k) ≡ true → is_ranking h.n (ranking_of job k) ≡ true) e (λ k l _. f.ranked k l);
      opens = subst⁻¹
          (λ h. (m k : ℕ) → m < r.rounds → k < h.K → is_counted (kind s h k) ≡ true → OpensTo h.group (h.n - m) h.n (matrix s h m k) (list_at s (ranking_of job) m k))
          e (λ m k b c d. (w.1 m k zero-le b c (rw (kinds_same hash job f k c) at d)).0);
    } in
    let same : counted_rankings s (ranking_of job) ≡ jobRankings job =
    subst⁻¹ (λ h. table_where h.K (λ k. is_counted (kind s h k)) (ranking_of job) ≡ jobRankings job) e
    (where_same job.K _ _ (ranking_of job) (λ k l. rw (kinds_same hash job f k l))) in
    let p : IsPlain s r.rounds r.order r.winner r =
    subst (λ h. IsPlain s r.rounds r.order r.winner (plain_count h.n (jobRankings job))) e
    (rw same at (sound hash s r.rounds r.order r.winner (ranking_of job) a o)) in
    let l : length s ≡ board_length job =
    subst (λ h. length s ≡ round_at h.n (kind s h) h.K r.rounds) e (p.whole ∙ round_is s (header s) r.rounds)
    ∙ round_same job.n job.K (kind s (header_of hash job)) (kind_of job) (kinds_same hash job f) r.rounds in
    record { heads = e; kinds = kinds; accepts = a; opens = o; is_plain = p; measured = l }

pub written : (hash : List ℕ → List ℕ) (job : Job) → Valid hash job → no_repeat job ≡ true → IsWritten hash job (board hash job) (plain_result job)
unfolding write_outcome
written hash job v d =
    let w = fixed hash job v in
    let l = w.measured in
    record { is_accepted = w; replies = λ room b. rw (no_refusal hash job room v d (omega (arith, l)), l) }

-- what an audited ballot of a written board shows
pub written_shown : (hash : List ℕ → List ℕ) (job : Job) → Valid hash job → (k : ℕ) → k < job.K → is_audited (kind_of job k) ≡ true →
    (ranking_shown (board hash job) k ≡ ranking_of job k)
    × ((i j : ℕ) → i < job.n → j < job.n → exponent_of (board hash job) k i j ≡ secret_at job.n job.draws (job_draws job 0 k) i j)
written_shown hash job v k l c =
    let f = fine hash job v in
    let s = board hash job in
    let e = header_same hash job f in
    let at = ballot_stands hash job f k l in (
      subst⁻¹ (λ h. shown_ranking s h.n (place s h 0 k) ≡ ranking_of job k) e (ranking_read hash job k f (in_first hash job f) l s _ at c),
      subst⁻¹ (λ h. (i j : ℕ) → i < job.n → j < job.n → shown_exponent s h.n (place s h 0 k) i j ≡ secret_at job.n job.draws (job_draws job 0 k) i j) e
          (exponent_read hash job k f (in_first hash job f) l s _ at c),
    )
