-- What is claimed of finding receipts (02, L1): the answer is that of each digest looked up alone, and agrees with the checker's.
use Rattle.std.specs.Prelude.{ℕ, suc, ◌≤◌, ◌<◌, ◌≡◌, ◌⊎◌, List, [], ◌∷◌, length, get_or}
use Rattle.rules.specs.Header.{header}
use Rattle.rules.specs.Check.{accepted, refused, check_board}
use Rattle.rules.specs.Receipts.{digest_count, digest_at, list_fault, ballot_record, numbers_found, find_refused, find_outcome}
use Rattle.jobs.specs.Job.{Job, group_of}
use Rattle.jobs.specs.Board.{job_ballot, board}
use Rattle.jobs.specs.Write.{Valid}

module _ (hash : List ℕ → List ℕ) where
  -- "lowest number first": the lowest, from 1, of a ballot whose record has the digest, "or 0"
  abbrev pub IsNumberOf : (s digest : List ℕ) (number : ℕ) → Type 0
  IsNumberOf s digest number =
      ((number ≡ 0) × ((k : ℕ) → k < (header s).K → hash (ballot_record s k) ≡ digest → ⊥))
      ⊎ ((k : ℕ) × (number ≡ suc k) × (k < (header s).K) × (hash (ballot_record s k) ≡ digest) × ((j : ℕ) → j < k → hash (ballot_record s j) ≡ digest → ⊥))

  -- every list that is fine for its room is answered with numbers
  abbrev pub Answered : (s : List ℕ) → Type 0
  Answered s = (digests : List ℕ) (room : ℕ) → list_fault digests room ≡ 0 → (numbers : List ℕ) × (find_outcome hash s digests room ≡ numbers_found numbers)

  -- digests of 32 bytes, as SHA-256's are (`whole/proofs/Receipts.antt`, `sha256_long`)
  abbrev pub LongDigests : Type 0
  LongDigests = (m : List ℕ) → length (hash m) ≡ 32

  pub record Receipts : Type 0 where
    -- "The result is that of looking up each digest alone": the number of each place is the answer to a list of that digest alone
    pub alone : (s digests : List ℕ) (room : ℕ) (numbers : List ℕ) → find_outcome hash s digests room ≡ numbers_found numbers →
        (length numbers ≡ digest_count digests)
        × ((i : ℕ) → i < digest_count digests → find_outcome hash s (digest_at digests i) 1 ≡ numbers_found (get_or numbers i 0 ∷ []))
    -- which is the lowest number of a ballot whose record has that digest, or 0 where none has it
    pub each : (s digests : List ℕ) (room : ℕ) (numbers : List ℕ) → find_outcome hash s digests room ≡ numbers_found numbers →
        (i : ℕ) → i < digest_count digests → IsNumberOf s (digest_at digests i) (get_or numbers i 0)
    -- a board that the checker accepts is never refused
    pub accepted_answered : (s : List ℕ) (rounds : ℕ) (order : List ℕ) (winner : ℕ) → check_board hash s ≡ accepted rounds order winner → Answered s
    -- where a board is refused, with a list that is fine, the checker refuses it too: with the same number and record, or with an earlier record
    pub refused_too : (s digests : List ℕ) (room refusal number : ℕ) → list_fault digests room ≡ 0 → find_outcome hash s digests room ≡ find_refused refusal number →
        (r k : ℕ) × (check_board hash s ≡ refused r k) × (((r ≡ refusal) × (k ≡ number)) ⊎ (k < number))
    -- on a board written by the rules the digest of each ballot's record is found under its number, or under a lower one with the same digest
    pub written_found : LongDigests → (job : Job) → Valid hash job → (k : ℕ) → k < job.K →
        let ballot : ℕ → List ℕ = job_ballot hash job (group_of hash job) in
        (j : ℕ) × (j ≤ k) × (hash (ballot j) ≡ hash (ballot k)) × (find_outcome hash (board hash job) (hash (ballot k)) 1 ≡ numbers_found (suc j ∷ []))
