-- What the search answers, by what the header and the walk of the ballots tell.
use Prim.Native.Nat.{ℕ, zero, suc, ◌≤◌, ◌<◌}
use mathlib.Core.Path.{◌≡◌, refl, sym, ap, ◌∙◌}
use mathlib.Core.Bool.{true, false}
use mathlib.Core.List.{List, ◌++◌, append-nil}
use mathlib.Core.Option.{Option, none, some}
use native.Mathlib.Omega.{arith}
use lib.ListN.{length, get_or, take, drop, replicate, length-take, length-replicate, get_or-replicate, take-append-drop, drop_of_length-le}
use lib.Seq.{get_or-take, ext_get_or, take_at}
use borrow.Author.Tests.{ne_eqb, le-leb, lt-leb}
use Rattle.numbers.specs.Below.{first_below}
use Rattle.sha256.specs.Message.{sha256}
use Rattle.rules.specs.Count.{table}
use Rattle.rules.specs.Tests.{first_fault, fault_below}
use Rattle.rules.specs.Header.{ranked, Header, header, header_fault}
use Rattle.rules.specs.Receipts.{digest_count, digest_at, same, ballot_record, frame_fault, Finding, numbers_found, find_refused, find_in_ballots, find_on_board, find_outcome, list_fault, digests_good, list_after}
use Rattle.rules.specs.Answers.{refusal_number, finding_of}
use Rattle.rules.specs.declared.Refusal.{Refusal}
use Rattle.std.specs.Prelude.{Result, Ok, Err}
use Rattle.rules.specs.declared.Refused.{Refused}
use Rattle.rules.proofs.Lists.{length_table, table_at, table_same}
use Rattle.rules.proofs.RefusalNumbers.{positive}
use Rattle.header.specs.declared.Head.{Head}
use Rattle.header.specs.Heads.{head_of, HeaderKnown}
use Rattle.digests.specs.Order.{number_with, entered}
use Rattle.receipts.specs.Steps.{numbers_after, Headed, Walked}

pub headed : (s : List ℕ) (h : Head) → head_of s h ≡ header s → HeaderKnown ranked s h → Headed s h.n h.k
headed s h e known = record { processes = ap (λ (w : Header). w.n) e; ballots = ap (λ (w : Header). w.K) e; small = known.high; few = known.few; long = known.long }

-- ---- the walk
module _ (s digests : List ℕ) where
  abbrev found : (k i : ℕ) → ℕ
  found k i = first_below k (λ b. same (sha256 (ballot_record s b)) (digest_at digests i))

  -- where no digest has a number yet, the walk gives each the one looked up
  numbers_are : (k : ℕ) → numbers_after s digests k (replicate (digest_count digests) 0) ≡ table (digest_count digests) (found k)
  unfolding numbers_after entered first_below
  numbers_are zero =
      ext_get_or 0 _ _ (length-replicate _ 0 ∙ sym (length_table _ _))
      (λ i l. let b : i < digest_count digests = rw length-replicate at l in get_or-replicate _ i 0 0 b ∙ sym (table_at _ (found 0) 0 i b))
  numbers_are (suc k) =
      table_same (digest_count digests) _ (found (suc k)) (λ i l.
      ap (number_with (same (sha256 (ballot_record s k)) (digest_at digests i)) (suc k)) (ap (λ (t : List ℕ). get_or t i 0) (numbers_are k) ∙ table_at _ (found k) 0 i l))

  module _ (before after : List ℕ) where
    pub walk_refused : (e : Refused) → Walked s digests before after (Err e) → find_in_ballots sha256 s digests ≡ find_refused (refusal_number e.refusal) e.record
    unfolding Walked find_in_ballots
    walk_refused e w = rw (w.1, find_in_ballots, w.2)

    pub walk_sound : before ≡ replicate (digest_count digests) 0 → Walked s digests before after (Ok tt) → find_in_ballots sha256 s digests ≡ numbers_found after
    unfolding Walked find_in_ballots
    walk_sound e w = rw (w.0, find_in_ballots) (ap numbers_found (sym (w.1 ∙ rw e (numbers_are (header s).K))))

  -- ---- the header
  pub header_refused : (why : Refusal) → header_fault sha256 ranked s ≡ refusal_number why → find_on_board sha256 s digests ≡ find_refused (refusal_number why) 0
  unfolding find_on_board
  header_refused why e = rw (e, ne_eqb (refusal_number why) 0 (λ z. omega (arith, positive why)))

  pub header_sound : header_fault sha256 ranked s ≡ 0 → find_on_board sha256 s digests ≡ find_in_ballots sha256 s digests
  unfolding find_on_board
  header_sound e = rw e

  -- ---- the list
  module _ (room : ℕ) where
    pub list_bad : digests_good digests ≡ false → find_outcome sha256 s digests room ≡ find_refused 16 0
    unfolding find_outcome list_fault first_fault
    list_bad e = rw e

    module _ (good : digests_good digests ≡ true) where
      pub list_short : room < digest_count digests → find_outcome sha256 s digests room ≡ find_refused 15 0
      unfolding find_outcome list_fault first_fault
      list_short l = rw (good, lt-leb (digest_count digests) room l)

      pub list_fine : digest_count digests ≤ room → find_outcome sha256 s digests room ≡ find_on_board sha256 s digests
      unfolding find_outcome list_fault first_fault
      list_fine l = rw (good, le-leb (digest_count digests) room l)

  -- as many numbers as digests
  pub numbers_long : (numbers : List ℕ) → find_in_ballots sha256 s digests ≡ numbers_found numbers → length numbers ≡ digest_count digests
  unfolding find_in_ballots
  numbers_long numbers e = go (fault_below (header s).K (frame_fault s)) refl
    where
      go : (v : Option (ℕ × ℕ)) → fault_below (header s).K (frame_fault s) ≡ v → length numbers ≡ digest_count digests
      go none q = let t : numbers_found (table (digest_count digests) (found (header s).K)) ≡ numbers_found numbers = rw (q, find_in_ballots) at e in let n : table (digest_count digests) (found (header s).K) ≡ numbers = cc in rw (← n) (length_table _ _)
      go (some w) q = let t : find_refused w.1 _ ≡ numbers_found numbers = rw (q, find_in_ballots) at e in let z : ◌≡◌ {A = ℕ} 0 1 = cc in absurd (omega arith)

-- ---- the lent list
module _ (f : Finding) (entry : List ℕ) where
  pub refuses : (refusal number : ℕ) → f ≡ find_refused refusal number → (find_refused refusal number ≡ f) × (entry ≡ list_after f entry)
  refuses refusal number e = (sym e, rw e)

  pub lists : (numbers exit : List ℕ) → f ≡ numbers_found numbers → length numbers ≡ length entry → exit ≡ numbers → (numbers_found exit ≡ f) × (exit ≡ list_after f entry)
  lists numbers exit e l x = (rw (x, e), rw (x, e, drop_of_length-le entry {i = length numbers} (omega arith), append-nil))

-- the front of the list was lent, for as many numbers as there are digests, and comes back
front : (f : Finding) (found exit : List ℕ) (count : ℕ) → count ≤ length found → exit ≡ list_after f (take count found) →
    ((numbers : List ℕ) → f ≡ numbers_found numbers → length numbers ≡ count) → (length exit ≡ count) × (exit ++ drop count found ≡ list_after f found)
front (numbers_found numbers) found exit count l x long =
    let n : length numbers ≡ count = long numbers refl in
    let same : exit ≡ numbers = x ∙ rw (drop_of_length-le (take count found) {i = length numbers} (simp length-take (omega arith)), append-nil) in
    (ap length same ∙ n, rw (same, n))
front (find_refused refusal number) found exit count l x long = (ap length x ∙ simp length-take (omega arith), rw (x, take-append-drop))

module _ (count : ℕ) where
  pub front_none : (l : List ℕ) → l ≡ replicate 500 0 → count ≤ 500 → take count l ≡ replicate count 0
  front_none l e b =
      let zeros : List ℕ = replicate 500 0 in
      let long : length (take count zeros) ≡ count = simp (length-take, length-replicate) (omega arith) in
      rw e
      (ext_get_or 0 (take count zeros) (replicate count 0) (long ∙ sym (length-replicate count 0))
      (λ i l. get_or-take count zeros i 0 (omega arith) ∙ get_or-replicate 500 i 0 0 (omega arith) ∙ sym (get_or-replicate count i 0 0 (omega arith))))

  pub front_long : (l : List ℕ) → count ≤ length l → length (take count l) ≡ count
  front_long l b = simp length-take (omega arith)

  pub front_back : (s digests found exit : List ℕ) (r : Result (Unit {0}) Refused) → header_fault sha256 ranked s ≡ 0 → count ≡ digest_count digests → count ≤ length found →
      finding_of r exit ≡ find_in_ballots sha256 s digests → exit ≡ list_after (find_in_ballots sha256 s digests) (take count found) →
      (finding_of r (take (digest_count digests) (exit ++ drop count found)) ≡ find_on_board sha256 s digests)
      × (exit ++ drop count found ≡ list_after (find_on_board sha256 s digests) found)
  front_back s digests found exit r h e l a x =
      let w = front (find_in_ballots sha256 s digests) found exit count l x (λ numbers q. numbers_long s digests numbers q ∙ sym e) in
      rw (header_sound s digests h, ← e) (rw (take_at exit (drop count found) count w.0) a, w.1)
