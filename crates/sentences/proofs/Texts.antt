-- The text, line after line.
use Prim.Native.Nat.{ℕ, zero, suc, ◌+◌, ◌≤◌, ◌<◌}
use mathlib.Core.Path.{◌≡◌, refl, ap, ◌∙◌}
use mathlib.Core.List.{List, [], ◌++◌, append-nil, append_assoc}
use mathlib.Core.Logic.{⊎_elim}
use native.Mathlib.Nat.{eq-or-lt_of_le}
use native.Mathlib.Omega.{arith}
use lib.ListN.{length, length-append}
use Rattle.numbers.specs.Below.{concat_below}
use Rattle.rules.specs.Sentences.{text}
use Rattle.count.specs.State.{result_of}
use Rattle.output.proofs.Laws.{blocks_more}
use Rattle.sentences.specs.declared.Named.{Named}
use Rattle.sentences.specs.Lines.{line_named, text_named}

pub text_is : (x : Named) → text_named x ≡ concat_below (x.ended.count.gone.outs + 1) (line_named x)
unfolding text result_of
text_is x = refl

module _ (f : ℕ → List ℕ) where
  pub no_line : [] ≡ concat_below 0 f
  unfolding concat_below
  no_line = refl

  pub lines_long : (m : ℕ) → length (concat_below (m + 1) f) ≡ length (concat_below m f) + length (f m)
  lines_long m = ap length (blocks_more f m) ∙ length-append (concat_below m f) (f m)

  -- what more lines bring stands behind
  pub lines_extend : (m n : ℕ) → m ≤ n → (more : List ℕ) × (concat_below n f ≡ concat_below m f ++ more)
  unfolding concat_below
  lines_extend m zero l = let z : m ≡ 0 = omega arith in ([], rw (z, append-nil))
  lines_extend m (suc n) l =
      ⊎_elim (λ (e : m ≡ suc n). ([], rw (e, append-nil)))
      (λ (b : m < suc n).
      let some = lines_extend m n (omega arith) in
      (some.0 ++ f n, ap (λ (t : List ℕ). t ++ f n) some.1 ∙ append_assoc _ some.0 (f n))) (eq-or-lt_of_le l)
