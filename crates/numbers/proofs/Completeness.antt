-- Completeness: a true statement meets each challenge, and a challenge fixed first is met with no w.
use Prim.Native.Nat.{ℕ, ◌+◌, ◌*◌, ◌-◌, ◌%◌, ◌^◌, ◌≤◌}
use mathlib.Core.Path.{◌≡◌}
use native.Mathlib.Nat.{mul_comm, mul_assoc, mul-one}
use native.Mathlib.Omega.{arith}
use lib.Pow.{pow-add}
use Rattle.numbers.proofs.Congruence.{Same, same_sym, same_trans, same_eq, mod_same, mul_same, pow_same}
use Rattle.numbers.proofs.RootsOfUnity.{Root, root_rest, exponents}
use Rattle.numbers.proofs.Powers.{pow_mul}
use Rattle.numbers.proofs.Residues.{mul_mod_lem, mul_mod_left, mul_mod_right}

answered : {p q : ℕ} (g a w k e : ℕ) → Root p q g → Same p a (g ^ w) → Same p (g ^ ((k + w * e) % q)) (g ^ k % p * a ^ e)
answered g a w k e r h =
    same_trans (exponents r (mod_same (k + w * e))) (same_trans (same_eq (pow-add g k (w * e)))
    (mul_same (same_sym (mod_same (g ^ k))) (rw (pow_mul g w e) (pow_same e (same_sym h)))))

-- the equations at one base in rests: the answer of one who knows w, and that to a challenge fixed first
pub true_equation : (p q base side nonce e w : ℕ) → base ^ q % p ≡ 1 → side % p ≡ base ^ w % p →
    base ^ ((nonce + e * w) % q) % p ≡ (base ^ nonce % p) * side ^ e % p
true_equation p q base side nonce e w h t =
    rw (mul_comm e w) (answered base side w nonce e (root_rest p q base h) (record { same = t })).same

pub false_equation : (p q base side e r : ℕ) → e ≤ q → side ^ q % p ≡ 1 → base ^ r % p ≡ (base ^ r % p * (side ^ (q - e) % p) % p) * side ^ e % p
false_equation p q base side e r l h =
    let k : q - e + e ≡ q = omega arith in
    cc (
      mul_mod_lem (base ^ r) (side ^ (q - e)) p,
      mul_mod_left (base ^ r * side ^ (q - e)) (side ^ e) p,
      mul_assoc (base ^ r) (side ^ (q - e)) (side ^ e),
      pow-add side (q - e) e,
      k,
      mul_mod_right (base ^ r) (side ^ q) p,
      mul-one (base ^ r),
    )
