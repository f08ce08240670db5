-- The tests of names and output, and what is told where both hold.
use Prim.Native.Nat.{ℕ, ◌≤◌, ◌<◌}
use mathlib.Core.Path.{◌≡◌, refl, sym, ap}
use mathlib.Core.Bool.{true, false}
use mathlib.Core.List.{List}
use lib.ListN.{length, take}
use lib.Seq.{take_at}
use borrow.Author.Tests.{le-leb, lt-leb}
use Rattle.std.specs.Prelude.{Option, Some, None, Err}
use Rattle.std.specs.Option.{ok_or}
use Rattle.rules.specs.Count.{Result}
use Rattle.rules.specs.Tests.{first_fault}
use Rattle.rules.specs.Sentences.{text}
use Rattle.rules.specs.Notice.{name_of, names_good, Telling, text_told, text_refused, text_fault, tell, output_after}
use Rattle.output.specs.Written.{written}

-- the error of nothing is the one given
pub error_is : {X E : Type 0} (o : Option X) (e x : E) → Err x ≡ ok_or o e → x ≡ e
error_is None e x p = cc
error_is (Some y) e x p = cc

-- a refusal leaves the output as it was
pub unchanged : (t : Telling) (refusal number : ℕ) (out : List ℕ) → t ≡ text_refused refusal number → (text_refused refusal number ≡ t) × (out ≡ output_after t out)
unchanged t refusal number out e = (sym e, rw e)

module _ (n : ℕ) (lent : List ℕ) (r : Result) (room : ℕ) where
  abbrev words : List ℕ
  words = text n (name_of lent) r

  pub names_bad : names_good lent n ≡ false → tell n lent r room ≡ text_refused 21 0
  unfolding tell text_fault first_fault
  names_bad e = rw e

  module _ (good : names_good lent n ≡ true) where
    pub too_short : room < length words → tell n lent r room ≡ text_refused 15 0
    unfolding tell text_fault first_fault
    too_short l = rw (good, lt-leb (length words) room l)

    all_told : length words ≤ room → tell n lent r room ≡ text_told (length words) words
    unfolding tell text_fault first_fault
    all_told l = rw (good, le-leb (length words) room l)

    -- the text stands at the front of what is then lent, and its length is answered
    pub told_is : length words ≤ room → (long : ℕ) (out after : List ℕ) → long ≡ length words → after ≡ written words out →
        (text_told long (take long after) ≡ tell n lent r room) × (after ≡ output_after (tell n lent r room) out)
    unfolding written
    told_is l long out after e w = rw (all_told l, e, w) (ap (λ (t : List ℕ). text_told (length words) t) (take_at words _ (length words) refl), refl)
