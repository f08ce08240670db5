-- The tests of the header, from the values that the code read.
use Prim.Native.Nat.{ℕ, ◌≤◌, ◌<◌}
use mathlib.Core.Path.{◌≡◌, sym, ap, ◌∙◌}
use mathlib.Core.Bool.{true, false}
use mathlib.Core.List.{List, [], ◌∷◌}
use lib.ListN.{length, get_or}
use borrow.Author.Tests.{le-leb, lt-leb}
use Rattle.sha256.specs.Message.{sha256}
use Rattle.group.specs.Elements.{Parameters}
use Rattle.rules.specs.Bytes.{number2, part}
use Rattle.rules.specs.Group.{orders, generators}
use Rattle.rules.specs.Records.{has_mark, header_length}
use Rattle.rules.specs.Tests.{first_fault, ◌or_else◌}
use Rattle.rules.specs.Header.{Header, header, header_fault, sizes, limits, counter_field}
use Rattle.rules.specs.declared.Model.{Model}

module _ (model : Model) (s : List ℕ) where
  pub too_short : length s < header_length → header_fault sha256 model s ≡ 1
  unfolding header_fault first_fault
  too_short h = rw (lt-leb header_length (length s) h)

  pub wrong_mark : header_length ≤ length s → has_mark s 0 model.mark ≡ false → header_fault sha256 model s ≡ 2
  unfolding header_fault first_fault
  wrong_mark long m = rw (le-leb header_length (length s) long, m)

-- the mark is right, and n, k and g are what the record shows
pub record Shown (model : Model) (s : List ℕ) (n k : ℕ) (g : Parameters) : Type 0 where
  pub long : header_length ≤ length s
  pub mark : has_mark s 0 model.mark ≡ true
  pub n_is : n ≡ get_or s 2 0
  pub k_is : k ≡ number2 s 3
  pub group_is : g ≡ (header s).group

module _ {model : Model} {s : List ℕ} {n k : ℕ} {g : Parameters} (r : Shown model s n k g) where
  pub header_is : ◌≡◌ {A = Header} (record { n = n; K = k; group = g; label = part s 22 32 }) (header s)
  unfolding header
  header_is = rw (r.n_is, r.k_is, r.group_is)

  tests : header_fault sha256 model s
      ≡ first_fault ((sizes model n k or_else 3) ∷ (limits model n k or_else 23) ∷ (orders n k g.p g.q or_else 4) ∷ (generators sha256 (part s 22 32) (counter_field s) g or_else 5) ∷ [])
  unfolding header_fault first_fault
  tests = rw (le-leb header_length (length s) r.long, r.mark) (ap (λ (H : Header). first_fault ((sizes model H.n H.K or_else 3) ∷ (limits model H.n H.K or_else 23) ∷ (orders H.n H.K H.group.p H.group.q or_else 4) ∷ (generators sha256 H.label (counter_field s) H.group or_else 5) ∷ [])) (sym header_is))

  pub wrong_sizes : sizes model n k ≡ false → header_fault sha256 model s ≡ 3
  unfolding first_fault
  wrong_sizes z = tests ∙ rw z

  module _ (size : sizes model n k ≡ true) where
    pub past_limits_lem : limits model n k ≡ false → header_fault sha256 model s ≡ 23
    unfolding first_fault
    past_limits_lem z = tests ∙ rw (size, z)

    module _ (limit : limits model n k ≡ true) where
      pub wrong_orders : orders n k g.p g.q ≡ false → header_fault sha256 model s ≡ 4
      unfolding first_fault
      wrong_orders o = tests ∙ rw (size, limit, o)

      module _ (order : orders n k g.p g.q ≡ true) where
        pub wrong_generators : generators sha256 (part s 22 32) (counter_field s) g ≡ false → header_fault sha256 model s ≡ 5
        unfolding first_fault
        wrong_generators b = tests ∙ rw (size, limit, order, b)

        pub sound_header : generators sha256 (part s 22 32) (counter_field s) g ≡ true → header_fault sha256 model s ≡ 0
        unfolding first_fault
        sound_header b = tests ∙ rw (size, limit, order, b)
