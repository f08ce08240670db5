-- The proofs of an accepted board: their numbers fit the message, and no two have the same place.
use Prim.Native.Nat.{ℕ, zero, suc, ◌+◌, ◌-◌, ◌%◌, ◌^◌, ◌≤◌, ◌<◌}
use mathlib.Core.Path.{◌≡◌, refl}
use mathlib.Core.Bool.{true, and-eq-true_iff}
use mathlib.Core.List.{List, ◌∷◌, []}
use native.Mathlib.Nat.{mod-lt, sub-zero}
use native.Mathlib.Omega.{arith}
use lib.ListN.{length, length-take, length-drop, length-append}
use borrow.Author.Tests.{ltb-true}
use Rattle.numbers.specs.Below.{sum_below}
use Rattle.group.specs.Arithmetic.{over}
use Rattle.group.specs.Elements.{is_element}
use Rattle.rules.specs.Bytes.{number2}
use Rattle.rules.specs.Group.{orders}
use Rattle.rules.specs.Proofs.{commitments_at, challenge}
use Rattle.rules.specs.Claims.{Matrix, entry_claim, line_claim, shift_claim}
use Rattle.rules.specs.Count.{leaves}
use Rattle.rules.specs.Records.{header_length, is_counted}
use Rattle.rules.proofs.Positions.{has_first, counted_has, has_counted}
use Rattle.rules.specs.Header.{Header, header}
use Rattle.rules.specs.Check.{place, kind, matrix, counts}
use Rattle.rules.proofs.Sizes.{cells}
use Rattle.rules.proofs.Leaving.{leaves_in_lem}
use Rattle.whole.specs.Rules.{e, PairRules, ProofFields}
use Rattle.whole.specs.SecondDemand.{HasRecord, standing_at, out_before, EveryRuleHolds}
use Rattle.whole.specs.Messages.{Form, entry, row, column, shift, branches_of, statements_of, context_of, branches, statements, hashed_message, Fits, OnBoard, record_of, proof_of, claim_of, on_board}
use Rattle.whole.proofs.SecondDemand.{early}
use Rattle.whole.proofs.Sound.Accepted.{header_good}
use Rattle.whole.proofs.Complete.Written.{cell}

pub label_long : (s : List ℕ) → header_length ≤ length s → length (header s).label ≡ 32
unfolding header
label_long s h = simp (length-take, length-drop) (omega (arith, h))

abbrev Small : ℕ → Type 0
Small x = x < 2 ^ 32

module _ (hash : List ℕ → List ℕ) (s : List ℕ) (rounds : ℕ) (order : List ℕ) (winner : ℕ) (w : EveryRuleHolds hash s rounds order winner) where
  abbrev h : Header
  h = header s

  abbrev p : ℕ
  p = h.group.p

  few : (2 ≤ h.n) × (h.n ≤ 8) × (h.K ≤ 1000)
  few = let g = header_good hash s w.head in (g.two, g.eight, g.thousand)

  p_below : p < 2 ^ 31
  unfolding orders
  p_below = let t = simp and-eq-true_iff at w.head.ordered in ltb-true p (2 ^ 31) t.0.0.0.1

  element_below : (x : ℕ) → is_element p h.group.q x ≡ true → Small x
  unfolding is_element
  element_below x t = let v = simp and-eq-true_iff at t in omega (arith, ltb-true x p v.0.1, p_below)

  p_some : 0 < p
  p_some = omega (arith, (header_good hash s w.head).orders.prime_p.large)

  rest_below : (x : ℕ) → Small (x % p)
  rest_below x = omega (arith, mod-lt x {m = p} p_some, p_below)

  over_below : (a b : ℕ) → Small (over p h.group.q a b)
  unfolding over
  over_below a b = rest_below _

  -- ---- what each form claims
  entry_below : (b y l : ℕ) → Small b → Small y → Small (entry_claim h.group b y l).left × Small (entry_claim h.group b y l).right
  unfolding entry_claim
  entry_below b y zero hb hy = (hb, hy)
  entry_below b y (suc l) hb hy = (over_below _ _, hy)

  line_below : (count : ℕ) (b y : ℕ → ℕ) → Small (line_claim h.group count b y).left × Small (line_claim h.group count b y).right
  unfolding line_claim
  line_below count b y = (over_below _ _, rest_below _)

  shift_below : (B N : Matrix) (a l i : ℕ) → Small (B.y l a) → Small (shift_claim h.group h.n B N a l i).left × Small (shift_claim h.group h.n B N a l i).right
  unfolding shift_claim
  shift_below B N a l zero hy = (over_below _ _, hy)
  shift_below B N a l (suc zero) hy = (rest_below _, rest_below _)
  shift_below B N a l (suc (suc i)) hy = (over_below _ _, over_below _ _)

  -- ---- the records of ballot k
  module _ (k : ℕ) (in_ballots : k < h.K) where
    abbrev IsCounted : Type 0
    IsCounted = is_counted (kind s h k) ≡ true

    pairs_in : (m : ℕ) → m < rounds → IsCounted → PairRules h.group (h.n - m) h.n (matrix s h m k)
    pairs_in zero l c = rw sub-zero (w.records 0 k l in_ballots).ballot.pairs
    pairs_in (suc m) l c = (w.records (suc m) k l in_ballots c).pairs

    gone_counted : (m : ℕ) → length (standing_at s m).gone ≡ m
    unfolding standing_at
    gone_counted zero = refl
    gone_counted (suc m) = omega (arith, length-append (standing_at s m).gone (leaves h.n (standing_at s m) (counts s h m) ∷ []), gone_counted m)

    -- who went out in round m is a process
    out_in : (m : ℕ) → suc m < rounds → (m + 2 ≤ h.n) × (out_before s (suc m) - 1 < h.n)
    unfolding out_before
    out_in m l =
        let room : m + 2 ≤ h.n = early hash s m w.head (λ r b. w.not_before r (omega (arith, w.rounds_are))) in
        let o = leaves_in_lem h.n (standing_at s m) (counts s h m) (omega (arith, gone_counted m)) in
        (room, omega (arith, o.low, o.high))

    first : 0 < rounds
    first = omega (arith, w.rounds_are)

    numbered : (m : ℕ) → m < rounds → HasRecord s h m k → number2 s (place s h m k + 2) ≡ k + 1
    numbered zero l has = (w.records 0 k l in_ballots).ballot.numbered
    numbered (suc m) l has = (w.records (suc m) k l in_ballots (has_counted (kind s h k) m has)).numbered

    shown_below : (at b S : ℕ) → ProofFields s h.group at b S → (l i : ℕ) → l < b → i < S → Small (commitments_at s at S l i).t1 × Small (commitments_at s at S l i).t2
    shown_below at b S f l i c d = (element_below _ (f.t1_element l i c d), element_below _ (f.t2_element l i c d))

    number_below : (m : ℕ) → m < rounds → HasRecord s h m k → number2 s (place s h m k + 2) < 2 ^ 16
    number_below m l has = rw (numbered m l has) (omega (arith, few.2))

    pub fits : (f : Form) → OnBoard h.n rounds (kind s h k) f → Fits (on_board s k f)
    unfolding branches_of statements_of context_of OnBoard record_of proof_of claim_of
    fits (entry i j) o =
        let r = (w.records 0 k first in_ballots).ballot in
        record {
          label_long = label_long s w.head.fits;
          number_below = number_below 0 first (has_first (kind s h k));
          place_below = omega (arith, cell h.n h.n i j o.0 o.1, cells h.n few.1);
          claims_below = λ l _ _ _. entry_below _ _ l (element_below _ (r.pairs.b_element i j o.0 o.1)) (element_below _ (r.pairs.y_element i j o.0 o.1));
          commitments_below = shown_below _ 2 1 (r.entry_fields i j o.0 o.1);
        }
    fits (row i) o =
        record {
          label_long = label_long s w.head.fits;
          number_below = number_below 0 first (has_first (kind s h k));
          place_below = omega (arith, cells h.n few.1, few.1);
          claims_below = λ _ _ _ _. line_below _ _ _;
          commitments_below = shown_below _ 1 1 ((w.records 0 k first in_ballots).ballot.row_fields i o);
        }
    fits (column j) o =
        record {
          label_long = label_long s w.head.fits;
          number_below = number_below 0 first (has_first (kind s h k));
          place_below = omega (arith, cells h.n few.1, few.1);
          claims_below = λ _ _ _ _. line_below _ _ _;
          commitments_below = shown_below _ 1 1 ((w.records 0 k first in_ballots).ballot.column_fields j o);
        }
    fits (shift m) o =
        let r = w.records (suc m) k o.0 in_ballots o.1 in
        let out = out_in m o.0 in
        record {
          label_long = label_long s w.head.fits;
          number_below = number_below (suc m) o.0 (counted_has (kind s h k) (suc m) o.1);
          place_below = omega arith;
          claims_below = λ l i a b. shift_below _ _ _ l i (element_below _ ((pairs_in m (omega (arith, o.0)) o.1).y_element l _ (omega (arith, out.0)) out.1));
          commitments_below = shown_below _ _ _ r.proof_fields_lem;
        }

    pub adds_up : (f : Form) → OnBoard h.n rounds (kind s h k) f →
        let x = on_board s k f in
        sum_below (branches x) (e s h.group (proof_of s k f) (branches x) (statements x)) % h.group.q ≡ challenge hash (hashed_message x) h.group.q
    unfolding branches_of statements_of context_of OnBoard record_of proof_of claim_of
    adds_up (entry i j) o = ((w.records 0 k first in_ballots).ballot.entries i j o.0 o.1).adds_up
    adds_up (row i) o = ((w.records 0 k first in_ballots).ballot.rows i o).adds_up
    adds_up (column j) o = ((w.records 0 k first in_ballots).ballot.columns j o).adds_up
    adds_up (shift m) o = (w.records (suc m) k o.0 in_ballots o.1).proof.adds_up

    -- the number that its message names
    pub number_is : (f : Form) → OnBoard h.n rounds (kind s h k) f → (on_board s k f).number ≡ k + 1
    unfolding OnBoard record_of
    number_is (entry i j) o = numbered 0 first (has_first (kind s h k))
    number_is (row i) o = numbered 0 first (has_first (kind s h k))
    number_is (column j) o = numbered 0 first (has_first (kind s h k))
    number_is (shift m) o = numbered (suc m) o.0 (counted_has (kind s h k) (suc m) o.1)
