-- The walk of a proof's branches and statements, in plain terms.
use Prim.Native.Nat.{ℕ, ◌+◌, ◌%◌, ◌<◌}
use mathlib.Core.Path.{◌≡◌}
use mathlib.Core.Bool.{Bool, true, false}
use mathlib.Core.List.{List, ◌++◌, append_assoc, append-nil}
use native.Mathlib.Nat.{mod-add-mod}
use native.Mathlib.Numerals.{add-one}
use lib.Dec.{eqb}
use Rattle.numbers.specs.Below.{all_below, sum_below, concat_below}
use Rattle.numbers.proofs.Tests.{all_fails}
use Rattle.sha256.specs.Message.{sha256}
use Rattle.sha256.specs.Feed.{Fed}
use Rattle.sha256.specs.declared.Hasher.{Hasher}
use Rattle.rules.specs.Bytes.{number4, number8}
use Rattle.rules.specs.Proofs.{Statement, Context, context_bytes, statement_bytes, message, statement_holds, branch_at, statement_at, commitments_at, proof_holds}

module _ (s : List ℕ) (p base0 base1 : ℕ) (claim : ℕ → ℕ → Statement) (at statements : ℕ) where
  abbrev pub here : (l i : ℕ) → Bool
  here l i =
      statement_holds p base0 base1 (claim l i)
      (number4 s (statement_at at statements l i)) (number4 s (statement_at at statements l i + 4))
      (number4 s (branch_at at statements l)) (number4 s (statement_at at statements l i + 8))

  abbrev pub branch_here : ℕ → Bool
  branch_here l = all_below statements (here l)

-- what the message says of a statement, and of a branch
module _ (s : List ℕ) (claim : ℕ → ℕ → Statement) (at statements l : ℕ) where
  abbrev pub piece : (i : ℕ) → List ℕ
  piece i = statement_bytes (claim l i) (commitments_at s at statements l i)

  abbrev pub pieces : List ℕ
  pieces = concat_below statements piece

abbrev pub challenges : (s : List ℕ) (at statements l : ℕ) → ℕ
challenges s at statements l = number4 s (branch_at at statements l)

one_more : (m : List ℕ) (f : ℕ → List ℕ) (i : ℕ) → (m ++ concat_below i f) ++ f i ≡ m ++ concat_below (i + 1) f
unfolding concat_below
one_more m f i = rw (add-one i, append_assoc)

pub sum_more : (q sum sum' e l : ℕ) (f : ℕ → ℕ) → sum ≡ sum_below l f % q → e ≡ f l → sum' ≡ (sum + e) % q → sum' ≡ sum_below (l + 1) f % q
unfolding sum_below
sum_more q sum sum' e l f h he h' = rw (add-one l, h', h, he) (mod-add-mod (sum_below l f) q (f l))

module _ (s label : List ℕ) (c : Context) (p q base0 base1 : ℕ) (claim : ℕ → ℕ → Statement) (at branches statements : ℕ) where
  pub fails_there : (l i : ℕ) → l < branches → i < statements → here s p base0 base1 claim at statements l i ≡ false →
      false ≡ proof_holds s at branches statements sha256 label c p q base0 base1 claim
  unfolding proof_holds
  fails_there l i hl hi h = rw (all_fails branches l (branch_here s p base0 base1 claim at statements) hl (all_fails statements i (here s p base0 base1 claim at statements l) hi h))

  pub sums_up : (sum whole : ℕ) → all_below branches (branch_here s p base0 base1 claim at statements) ≡ true →
      sum ≡ sum_below branches (challenges s at statements) % q →
      whole ≡ number8 (sha256 (label ++ context_bytes c ++ concat_below branches (pieces s claim at statements))) 0 % q →
      eqb sum whole ≡ proof_holds s at branches statements sha256 label c p q base0 base1 claim
  unfolding proof_holds message
  sums_up sum whole h hs hc = rw (h, hs, hc)

-- what is fed grows by one part more
pub fed_below_none : (t : ℕ → List ℕ) (m : List ℕ) (h : Hasher) → Fed h m → Fed h (m ++ concat_below 0 t)
unfolding concat_below
fed_below_none t m h f = rw append-nil f

pub fed_below_more : (t : ℕ → List ℕ) (i : ℕ) (m : List ℕ) (h : Hasher) → Fed h ((m ++ concat_below i t) ++ t i) → Fed h (m ++ concat_below (i + 1) t)
fed_below_more t i m h f = rw (← one_more m t i) f

pub fed_branch : (h : Hasher) (m s : List ℕ) (claim : ℕ → ℕ → Statement) (at statements l i : ℕ) → i ≡ statements →
    Fed h ((m ++ concat_below l (pieces s claim at statements)) ++ concat_below i (piece s claim at statements l)) →
    Fed h (m ++ concat_below (l + 1) (pieces s claim at statements))
fed_branch h m s claim at statements l i e f = fed_below_more (pieces s claim at statements) l m h (rw e at f)
