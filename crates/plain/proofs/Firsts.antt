-- The counts of a round, ranking by ranking.
use Prim.Native.Nat.{ℕ, suc, ◌+◌, ◌≤◌, ◌<◌}
use mathlib.Core.Path.{◌≡◌, refl, sym, ◌∙◌}
use mathlib.Core.Bool.{Bool, true, false, cond}
use mathlib.Core.List.{List, [], ◌∷◌, ◌++◌, append-nil}
use native.Mathlib.Nat.{add_assoc}
use native.Mathlib.Numerals.{add-one}
use native.Mathlib.Omega.{arith}
use lib.Dec.{eqb}
use lib.ListN.{length, get_or, take, length-take}
use lib.Seq.{get_or-take, ext_get_or}
use Rattle.numbers.proofs.Tests.{by_cases}
use Rattle.std.specs.List.{find}
use Rattle.std.specs.Option.{unwrap_or}
use Rattle.rules.specs.Count.{still_in, first_in, votes_for, counts_of, table, table_where}
use Rattle.rules.proofs.Lists.{length_table, table_at}

-- the first process still in: the code's search
pub first_is : (n : ℕ) (gone l : List ℕ) → unwrap_or (find (λ c. still_in n gone c) l) 0 ≡ first_in n gone l
unfolding first_in
first_is n gone [] = refl
first_is n gone (c ∷ l) = by_cases (still_in n gone c) (λ t. rw t) (λ t. rw t (first_is n gone l))

-- the votes of one ranking more
votes_snoc : (n : ℕ) (gone : List ℕ) (rs : List (List ℕ)) (r : List ℕ) (c : ℕ) → votes_for n gone (rs ++ (r ∷ [])) c ≡ votes_for n gone rs c + cond (eqb (first_in n gone r) c) 1 0
unfolding votes_for
votes_snoc n gone [] r c = omega arith
votes_snoc n gone (x ∷ rs) r c = rw (votes_snoc n gone rs r c) (sym (add_assoc _ _ _))

-- and of one ballot more, whose ranking may be counted
module _ (n : ℕ) (gone : List ℕ) (p : ℕ → Bool) (f : ℕ → List ℕ) (b c : ℕ) where
  pub votes_more : p b ≡ true → votes_for n gone (table_where (b + 1) p f) c ≡ votes_for n gone (table_where b p f) c + cond (eqb (first_in n gone (f b)) c) 1 0
  unfolding table_where
  votes_more e = rw (add-one, e) (votes_snoc n gone (table_where b p f) (f b) c)

  pub votes_passed : p b ≡ false → votes_for n gone (table_where (b + 1) p f) c ≡ votes_for n gone (table_where b p f) c
  unfolding table_where
  votes_passed e = rw (add-one, e, append-nil)

pub votes_none : (n : ℕ) (gone : List ℕ) (p : ℕ → Bool) (f : ℕ → List ℕ) (c : ℕ) → votes_for n gone (table_where 0 p f) c ≡ 0
unfolding table_where votes_for
votes_none n gone p f c = refl

pub counts_are : (counts : List ℕ) (n : ℕ) (gone : List ℕ) (rs : List (List ℕ)) → length counts ≡ 8 → n ≤ 8 →
    ((i : ℕ) → i < 8 → get_or counts i 0 ≡ votes_for n gone rs (suc i)) → take n counts ≡ counts_of n rs gone
unfolding counts_of
counts_are counts n gone rs e h w =
    let l : length (take n counts) ≡ n = simp length-take (omega arith) in
    ext_get_or 0 (take n counts) (table n (λ i. votes_for n gone rs (suc i))) (l ∙ sym (length_table n _)) (λ i k.
    let b : i < n = omega arith in
    get_or-take n counts i 0 b ∙ w i (omega arith) ∙ sym (table_at n (λ i. votes_for n gone rs (suc i)) 0 i b))

pub one : (t : Bool) → cond t 1 0 ≤ 1
one true = omega arith
one false = omega arith
