use Prim.Native.Nat.{ℕ}
use mathlib.Core.Path.{ap, ◌∙◌}
use mathlib.Core.List.{List}
use native.Mathlib.Omega.{arith}
use Rattle.sha256.specs.Stream.{feed}
use Rattle.sha256.specs.Feed.{stream_of}
use Rattle.rules.specs.Proofs.{context_bytes}
use Rattle.rules.proofs.Lists.{two_of}
use Rattle.challenges.proofs.feed_context.Goals as goal

pub returns : goal.returns
returns c =
    let a = c.args in
    rw (c.to_be_bytes.ensures, c.to_be_bytes-2.ensures) at c.update.ensures
    ∙ ap (λ (mark : List ℕ). feed (stream_of a.labelled) (context_bytes (record { mark = mark; number = a.number; round = a.round; place = a.place })))
    (two_of a.mark (omega (arith, c.well_formed)))
