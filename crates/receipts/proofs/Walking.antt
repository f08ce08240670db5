-- The ballots walked one after another.
use Prim.Native.Nat.{ℕ, suc, ◌+◌, ◌≤◌, ◌<◌}
use mathlib.Core.Path.{◌≡◌, refl, sym, ap, ◌∙◌}
use mathlib.Core.List.{List, []}
use native.Mathlib.Omega.{arith}
use lib.ListN.{length}
use borrow.Author.Tests.{le-leb}
use Rattle.numbers.proofs.Search.{extend}
use Rattle.rules.specs.Records.{kind_at, header_length, ballot_length, record_length}
use Rattle.rules.specs.Tests.{first_fault}
use Rattle.rules.specs.Header.{header}
use Rattle.rules.specs.Check.{Position, position, place, kind}
use Rattle.rules.specs.Receipts.{digest_count, frame_fault}
use Rattle.rules.specs.Answers.{refusal_number}
use Rattle.rules.specs.declared.Refusal.{Refusal}
use Rattle.rules.proofs.Faults.{no_fault, fault_at}
use Rattle.rules.proofs.Positions.{position_first, number_first, place_record}
use Rattle.rules.proofs.RefusalNumbers.{positive}
use Rattle.rules.proofs.Lists.{length_table}
use Rattle.std.specs.Prelude.{Result, Ok, Err}
use Rattle.frames.specs.Framed.{Framed, BallotFramed}
use Rattle.receipts.specs.declared.Hashed.{Hashed}
use Rattle.digests.specs.Order.{entered}
use Rattle.receipts.specs.Steps.{numbers_after, Hashes, Headed, Walked}

-- the ballots before the one with a number are walked, and its record is next
pub record WalkedTo (s digests before after : List ℕ) (number at : ℕ) : Type 0 where
  pub k : ℕ
  pub next : number ≡ suc k
  pub few : k ≤ (header s).K
  pub here : at ≡ place s (header s) 0 k
  pub fits : at ≤ length s
  pub long : length after ≡ digest_count digests
  pub sound : (j : ℕ) → j < k → frame_fault s j ≡ 0
  pub entered : after ≡ numbers_after s digests k before

module _ (s digests before : List ℕ) {n K : ℕ} (h : Headed s n K) where
  pub walked_start : length before ≡ digest_count digests → WalkedTo s digests before before 1 header_length
  unfolding numbers_after
  walked_start long =
      record { k = 0; next = refl; few = omega arith; here = sym (ap (λ (p : Position). p.place) (position_first s (header s))); fits = h.long; long = long; sound = λ j l. absurd (omega arith); entered = refl }

  module _ {after : List ℕ} {number at : ℕ} (w : WalkedTo s digests before after number at) where
    -- what the code asks of the frame is what the rules ask
    frame_here : (f : Result (Unit {0}) Refusal) → BallotFramed s at n number f → BallotFramed s (place s (header s) 0 w.k) (header s).n (w.k + 1) f
    frame_here f t =
        let due : number ≡ w.k + 1 = omega (arith, w.next) in
        rw (w.here, h.processes, due) at t

    module _ (l : number < K + 1) where
      below : w.k < (header s).K
      below = omega (arith, h.ballots, w.next)

      pub walked_refused : (why : Refusal) → Hashes s at n number (Err why) → Walked s digests before after (Err (record { refusal = why; «record» = number }))
      unfolding Walked Hashes BallotFramed
      walked_refused why t =
          let e : frame_fault s w.k ≡ refusal_number why = frame_here (Err why) t [] in
          (w.k, rw (← e) (fault_at (header s).K (frame_fault s) w.k below w.sound (λ z. omega (arith, positive why))), omega (arith, number_first s (header s) w.k, w.next), w.entered)

      pub walked_more : (r : Hashed) → Hashes s at n number (Ok r) → (more : List ℕ) → more ≡ entered digests r.digest number after → WalkedTo s digests before more (number + 1) r.next
      unfolding BallotFramed Framed Hashes first_fault numbers_after entered record_length position
      walked_more r read more em =
          let t = read.0 in
          let f = frame_here (Ok tt) t in
          let e : ballot_length n (kind_at s at) ≡ ballot_length (header s).n (kind s (header s) w.k) = rw (← w.here, ← h.processes) in
          record {
            k = suc w.k;
            next = omega (arith, w.next);
            few = below;
            here = rw (place_record s (header s) 0 w.k, ← e, ← w.here) read.1;
            fits = rw read.1 t.0.0;
            long = rw em (length_table _ _);
            sound = extend (λ j. frame_fault s j ≡ 0) w.k w.sound (rw (le-leb _ _ f.0.0, f.0.1, f.0.2, f.1));
            entered = cc (em, read.2, e, w.here, w.next, w.entered);
          }

    pub walked_all : K + 1 ≤ number → Walked s digests before after (Ok tt)
    unfolding Walked
    walked_all l =
        let e : w.k ≡ (header s).K = omega (arith, h.ballots, w.next, w.few) in
        (no_fault _ _ (λ j b. w.sound j (omega arith)), w.entered ∙ rw e)
