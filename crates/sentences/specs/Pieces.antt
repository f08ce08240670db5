-- One text after another, into a sink or into the unwritten rest of an output.
use Rattle.std.specs.Prelude.{ℕ, ◌+◌, ◌≡◌, refl, List, [], ◌++◌, length}
use mathlib.Core.Path.{sym, ◌∙◌}
use mathlib.Core.List.{append-nil, append_assoc}
use native.Mathlib.Nat.{add-zero}
use native.Mathlib.Omega.{arith}
use lib.ListN.{length-append}
use Rattle.output.specs.Written.{written}

-- text after text is one text: where it fits its front does, and its rest after that
pub record SinkLaws {X : Type 0} (fits : X → List ℕ → Type 0) (took : X → List ℕ → X → Type 0) : Type 0 where
  pub none : (x : X) → took x [] x
  pub both : (x y z : X) (a b : List ℕ) → took x a y → took y b z → took x (a ++ b) z
  pub front : (x : X) (a b : List ℕ) → fits x (a ++ b) → fits x a
  pub rest : (x y : X) (a b : List ℕ) → fits x (a ++ b) → took x a y → fits y b

-- b is written into the unwritten rest of an output, which starts at a place and then at another
pub record Put (b : List ℕ) (at : ℕ) (before after : List ℕ) (next : ℕ) : Type 0 where
  pub ends : next ≡ at + length b
  pub long : length after ≡ length before
  pub puts : (w o : List ℕ) → length w ≡ at → before ≡ written w o → after ≡ written (w ++ b) o

pub put_none : (at : ℕ) (l : List ℕ) → Put [] at l l at
put_none at l = record { ends = sym (add-zero at); long = refl; puts = λ w o n e. e ∙ rw (append-nil w) }

pub put_both : {b c x y z : List ℕ} {p q r : ℕ} → Put b p x y q → Put c q y z r → Put (b ++ c) p x z r
put_both {b} {c} {p = p} s t =
    record {
      ends = t.ends ∙ omega (arith, s.ends, length-append b c);
      long = t.long ∙ s.long;
      puts = λ w o n e. t.puts (w ++ b) o (length-append w b ∙ omega (arith, n, s.ends)) (s.puts w o n e) ∙ rw (append_assoc w b c);
    }
