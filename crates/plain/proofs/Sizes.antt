-- The draws of records.
use Prim.Native.Nat.{ℕ, zero, suc, ◌+◌, ◌*◌, ◌-◌}
use mathlib.Core.Path.{◌≡◌, refl}
use borrow.Author.Tests.{eq-eqb, ne_eqb}
use Rattle.jobs.specs.Job.{record_draws}

pub draws_first : (n kind m : ℕ) → m ≡ 0 → record_draws n kind m ≡ 4 * (n * n) + 2 * n
unfolding record_draws
draws_first n kind m e = rw e

pub draws_later : (n kind m : ℕ) → (m ≡ 0 → ⊥) → kind ≡ 0 → record_draws n kind m ≡ (n - m) * n + (n - m + 1) * (2 + (n - m) * n) + (n - m)
unfolding record_draws
draws_later n kind zero h c = absurd (h refl)
draws_later n kind (suc m) h c = rw (eq-eqb kind 0 c)

pub draws_none : (n kind m : ℕ) → (m ≡ 0 → ⊥) → (kind ≡ 0 → ⊥) → record_draws n kind m ≡ 0
unfolding record_draws
draws_none n kind zero h c = absurd (h refl)
draws_none n kind (suc m) h c = rw (ne_eqb kind 0 c)
