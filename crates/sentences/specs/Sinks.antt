-- What is counted of a text, and what is written of it.
use Rattle.std.specs.Prelude.{ℕ, ◌+◌, ◌≤◌, ◌<◌, ◌≡◌, refl, List, length}
use mathlib.Core.Path.{◌∙◌}
use native.Mathlib.Omega.{arith}
use lib.ListN.{length-append}
use Rattle.sentences.specs.declared.sink.Length.{Length}
use Rattle.sentences.specs.declared.sink.Rest.{Rest}
use Rattle.sentences.specs.Pieces.{SinkLaws, Put, put_none, put_both}

abbrev pub any_fits : Length → List ℕ → Type 0
any_fits x a = Unit {0}

-- as long as the length stays below 2 ^ 64
abbrev pub counted : Length → List ℕ → Length → Type 0
counted x a y = x.0 + length a < 18446744073709551616 → y.0 ≡ x.0 + length a

pub counted_laws : SinkLaws any_fits counted
counted_laws =
    record {
      none = λ x _. omega arith;
      both = λ x y z a b s t l.
          let n = length-append a b in
          let p : y.0 ≡ x.0 + length a = s (omega arith) in
          let q : z.0 ≡ y.0 + length b = t (omega arith) in
          omega arith;
      front = λ x a b l. tt;
      rest = λ x y a b l s. tt;
    }

abbrev pub fits_behind : Rest → List ℕ → Type 0
fits_behind x a = x.at + length a ≤ length x.out.now

-- the same output is kept
abbrev pub put_behind : Rest → List ℕ → Rest → Type 0
put_behind x a y = (y.out.ghost_name ≡ x.out.ghost_name) × Put a x.at x.out.now y.out.now y.at

pub put_laws : SinkLaws fits_behind put_behind
put_laws =
    record {
      none = λ x. (refl, put_none x.at x.out.now);
      both = λ x y z a b s t. (t.0 ∙ s.0, put_both s.1 t.1);
      front = λ x a b l. omega (arith, length-append a b);
      rest = λ x y a b l s. omega (arith, length-append a b, s.1.ends, s.1.long);
    }
