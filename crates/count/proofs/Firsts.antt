-- A list with its zeros, one more at a time.
use Prim.Native.Nat.{ℕ, suc, ◌-◌, ◌<◌}
use mathlib.Core.Path.{◌≡◌}
use mathlib.Core.List.{List, [], ◌∷◌, ◌++◌}
use native.Mathlib.Omega.{arith}
use lib.ListN.{length, set, replicate, length-append}
use lib.Seq.{set_at, append_snoc}
use Rattle.rules.specs.Answers.{with_zeros}

pub pad_more : (l : List ℕ) (n c : ℕ) → length l ≡ n → n < 8 → set (with_zeros l) n c ≡ with_zeros (l ++ (c ∷ []))
unfolding with_zeros
pad_more l n c e h =
    let m : length (l ++ (c ∷ [])) ≡ suc n = simp length-append (omega arith) in
    let k : 8 - n ≡ suc (8 - suc n) = omega arith in
    rw (m, e, k, append_snoc) (set_at l 0 (replicate (8 - suc n) 0) c n e)
