-- The length of what a ballot has, by kind and round.
use Prim.Native.Nat.{ℕ, zero, suc, ◌+◌, ◌-◌}
use mathlib.Core.Path.{◌≡◌, refl}
use borrow.Author.Tests.{eq-eqb}
use Rattle.rules.specs.Records.{counted_length, audit_length, record_length, ballot_length, shift_length}

pub length_audited : (n kind : ℕ) → kind ≡ 1 → counted_length n + audit_length n ≡ ballot_length n kind
length_audited n kind e = rw (eq-eqb kind 1 e)

pub length_first : (n kind m : ℕ) → m ≡ 0 → record_length n kind m ≡ ballot_length n kind
unfolding record_length
length_first n kind m e = rw e

pub length_later : (n kind m : ℕ) → (m ≡ 0 → ⊥) → kind ≡ 0 → record_length n kind m ≡ shift_length n (n - m)
unfolding record_length
length_later n kind zero h c = absurd (h refl)
length_later n kind (suc m) h c = rw (eq-eqb kind 0 c)
