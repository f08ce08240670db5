-- A `Result` whose error was mapped.
use mathlib.Core.Path.{◌≡◌, refl, subst}
use Rattle.std.specs.Prelude.{Result, Ok, Err}
use Rattle.std.specs.Result.{MatchResult, IsErrAnd}

pub mapped_ok : {T E D : Type 0} (r : Result T E) (s : Result T D) (Q : E → D → Type 0) → MatchResult r (λ x. s ≡ Ok x) (λ e. IsErrAnd s (Q e)) →
    (x : T) → s ≡ Ok x → r ≡ Ok x
mapped_ok (Ok y) s Q m x e = cc
mapped_ok (Err y) (Ok z) Q m x e = absurd m
mapped_ok (Err y) (Err z) Q m x e = cc

pub mapped_err : {T E D : Type 0} (r : Result T E) (s : Result T D) (Q : E → D → Type 0) → MatchResult r (λ x. s ≡ Ok x) (λ e. IsErrAnd s (Q e)) →
    (d : D) → s ≡ Err d → (e : E) × (r ≡ Err e) × Q e d
mapped_err (Ok y) s Q m d e = cc
mapped_err (Err y) (Ok z) Q m d e = absurd m
mapped_err {D = D} (Err y) (Err z) Q m d e = let same : z ≡ d = cc in (y, refl, subst (Q y) same m)
