-- The tests of a BA or SH record in the table's order: those of its frame, then its fields, its proofs and what it shows.
use Prim.Native.Nat.{ℕ, ◌≤◌}
use mathlib.Core.Path.{◌≡◌}
use mathlib.Core.Bool.{Bool, true, false}
use mathlib.Core.List.{List, [], ◌∷◌}
use lib.ListN.{length}
use Rattle.std.specs.Prelude.{Result, Ok, Err}
use Rattle.rules.specs.Tests.{first_fault, ◌or_else◌}
use Rattle.rules.specs.Answers.{refusal_number}
use Rattle.rules.specs.declared.Refusal.{Refusal}
use Rattle.rules.specs.declared.Refusal.TheVariants.{Field, Proof, Opening}
use Rattle.records.specs.Passes.{Passes}

-- a frame that is refused decides; behind a sound one the record is on the board, and the other tests decide
pub record Tested (s : List ℕ) (fault next : ℕ) (Frame : Result (Unit {0}) Refusal → Type 0) (fields proofs shown : Bool) : Type 0 where
  pub refused : (w : Refusal) → Frame (Err w) → fault ≡ refusal_number w
  pub fits : Frame (Ok tt) → next ≤ length s
  pub rest : Frame (Ok tt) → fault ≡ first_fault ((fields or_else 7) ∷ (proofs or_else 8) ∷ (shown or_else 18) ∷ [])

module _ {s : List ℕ} {fault next : ℕ} {Frame : Result (Unit {0}) Refusal → Type 0} {fields proofs shown : Bool}
    (t : Tested s fault next Frame fields proofs shown) where
  pub wrong_frame : (w : Refusal) → Frame (Err w) → Passes s fault next (Err w)
  unfolding Passes
  wrong_frame w f = t.refused w f

  module _ (f : Frame (Ok tt)) where
    pub wrong_field : fields ≡ false → Passes s fault next (Err Field)
    unfolding first_fault Passes
    wrong_field b = rw (t.rest f, b)

    module _ (b : fields ≡ true) where
      pub wrong_proof : proofs ≡ false → Passes s fault next (Err Proof)
      unfolding first_fault Passes
      wrong_proof p = rw (t.rest f, b, p)

      module _ (p : proofs ≡ true) where
        pub wrong_opening : shown ≡ false → Passes s fault next (Err Opening)
        unfolding first_fault Passes
        wrong_opening o = rw (t.rest f, b, p, o)

        pub all_sound : shown ≡ true → (at : ℕ) → at ≡ next → Passes s fault next (Ok at)
        unfolding first_fault Passes
        all_sound o at e = (rw (t.rest f, b, p, o), e, t.fits f)
