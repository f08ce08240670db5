-- What the tests of a record's frame tell.
use Prim.Native.Nat.{ℕ, ◌+◌, ◌≤◌, ◌<◌}
use mathlib.Core.Path.{◌≡◌, sym}
use mathlib.Core.Bool.{true, false}
use mathlib.Core.List.{List, ◌∷◌}
use mathlib.Core.Logic.{⊎_elim}
use native.Mathlib.Nat.{eq-or-lt_of_le}
use native.Mathlib.Omega.{arith}
use lib.ListN.{length, get_or-eq_default}
use borrow.Author.Tests.{le-leb, lt-leb, eq-eqb, ne_eqb}
use Rattle.rules.specs.Bytes.{number2}
use Rattle.rules.specs.Records.{BA, has_mark, kind_at, ballot_length}
use Rattle.rules.specs.Tests.{first_fault}
use Rattle.rules.specs.declared.Refusal.{Refusal}
use Rattle.rules.specs.declared.Refusal.TheVariants.{Length, Mark, Number, Kind}
use Rattle.std.specs.Prelude.{Ok, Err}
use Rattle.rules.specs.Ballot.{kind_test}
use Rattle.frames.specs.Framed.{Begun, Framed, BallotFramed}

module _ (s : List ℕ) (at size : ℕ) (mark : List ℕ) where
  pub begun_short : length s < at + size → Begun s at size mark (Err Length)
  unfolding Begun Framed first_fault
  begun_short l shown due rest = rw (lt-leb (at + size) (length s) l)

  module _ (l : at + size ≤ length s) where
    pub begun_mark : has_mark s at mark ≡ false → Begun s at size mark (Err Mark)
    unfolding Begun Framed first_fault
    begun_mark m shown due rest = rw (le-leb (at + size) (length s) l, m)

    pub begun_sound : has_mark s at mark ≡ true → Begun s at size mark (Ok tt)
    unfolding Begun
    begun_sound m = (l, m)

  module _ (shown due : ℕ) where
    pub frame_begun : (w : Refusal) → Begun s at size mark (Err w) → Framed s at size mark shown due (Err w)
    unfolding Begun
    frame_begun w b = b shown due

    module _ (b : Begun s at size mark (Ok tt)) where
      pub frame_number : (shown ≡ due → ⊥) → Framed s at size mark shown due (Err Number)
      unfolding Begun Framed first_fault
      frame_number d rest = rw (le-leb (at + size) (length s) b.0, b.1, ne_eqb shown due d)

      pub frame_sound : shown ≡ due → Framed s at size mark shown due (Ok tt)
      unfolding Begun Framed
      frame_sound e = (b.0, b.1, eq-eqb shown due e)

-- a BA record: the frame with its length by kind, then its kind
module _ (s : List ℕ) (at n due : ℕ) where
  pub ballot_framed : (w : Refusal) → Framed s at (ballot_length n (kind_at s at)) BA (number2 s (at + 2)) due (Err w) → BallotFramed s at n due (Err w)
  unfolding Framed BallotFramed
  ballot_framed w f rest = f (kind_test s at ∷ rest)

  module _ (f : Framed s at (ballot_length n (kind_at s at)) BA (number2 s (at + 2)) due (Ok tt)) where
    pub ballot_kind : 1 < kind_at s at → BallotFramed s at n due (Err Kind)
    unfolding Framed BallotFramed first_fault
    ballot_kind l rest =
        rw (
          le-leb (at + ballot_length n (kind_at s at)) (length s) f.0,
          f.1,
          f.2,
          ne_eqb (kind_at s at) 0 (λ e. omega arith),
          ne_eqb (kind_at s at) 1 (λ e. omega arith),
        )

    pub ballot_sound : kind_at s at ≤ 1 → BallotFramed s at n due (Ok tt)
    unfolding BallotFramed
    ballot_sound l =
        (f, ⊎_elim (λ (e : kind_at s at ≡ 1). rw (e)) (λ (b : kind_at s at < 1). let e : kind_at s at ≡ 0 = omega arith in rw e) (eq-or-lt_of_le l))

-- where the board ends before the kind, it reads as 0
pub kind_past : (s : List ℕ) (at : ℕ) → length s < at + 5 → 0 ≡ kind_at s at
kind_past s at l = sym (get_or-eq_default s 0 {n = at + 4} (omega arith))
