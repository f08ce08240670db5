-- The messages of the challenges are short.
use Prim.Native.Nat.{ℕ, suc, ◌+◌, ◌*◌, ◌-◌, ◌≤◌}
use mathlib.Core.Path.{◌≡◌, refl, ap, ◌∙◌}
use native.Mathlib.Nat.{mul-le-mul}
use native.Mathlib.Omega.{arith}
use lib.ListN.{length}
use Rattle.rules.proofs.Messages.{message_long}
use Rattle.whole.specs.Messages.{Form, entry, row, column, shift, branches_of, statements_of, Hashed, branches, statements, context, hashed_message, on_board}
use Rattle.whole.specs.Lengths.{Lengths}
use Rattle.whole.proofs.Messages.Forms.{mark_long}
use Rattle.whole.proofs.Messages.Boards.{label_long}

long : (x : Hashed) → length x.label ≡ 32 → length (hashed_message x) ≡ 39 + branches x * (statements x * 16)
long x h = message_long x.label (context x) (branches x) (statements x) x.claim x.commitments h (mark_long x.n x.number x.form)

few : (n : ℕ) (f : Form) → n ≤ 8 → branches_of n f * (statements_of n f * 16) ≤ 7424
unfolding branches_of statements_of
few n (entry i j) h = omega arith
few n (row i) h = omega arith
few n (column j) h = omega arith
few n (shift m) h =
    let a : (n - suc m) * n ≤ 7 * 8 = mul-le-mul {n₁ = n - suc m} {m₁ = n} {n₂ = 7} {m₂ = 8} (omega arith) h in
    mul-le-mul {n₁ = n - suc m + 1} {m₁ = (2 + (n - suc m) * n) * 16} {n₂ = 8} {m₂ = 928} (omega arith) (omega arith)

short : (x : Hashed) → length x.label ≡ 32 → x.n ≤ 8 → length (hashed_message x) ≤ 7463
short x l h = omega (arith, long x l, few x.n x.form h)

largest : (n : ℕ) (f : Form) → n ≡ 8 → f ≡ shift 0 → branches_of n f * (statements_of n f * 16) ≡ 7424
unfolding branches_of statements_of
largest n f e d = rw (e, d) refl

pub lengths : Lengths
lengths =
    record {
      long = long;
      short = short;
      longest = λ x l e d. long x l ∙ ap (λ (k : ℕ). 39 + k) (largest x.n x.form e d);
      of_boards = λ s h n k f. short (on_board s k f) (label_long s h) n;
    }
