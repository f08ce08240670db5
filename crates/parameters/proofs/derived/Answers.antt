use mathlib.Core.Path.{◌≡◌, ap, ◌∙◌}
use Prim.Native.Nat.{ℕ}
use mathlib.Core.List.{List, [], ◌∷◌, ◌++◌}
use Rattle.sha256.specs.Message.{sha256}
use Rattle.sha256.proofs.Feed.{fed_first, fed_more, fed_digest}
use Rattle.rules.specs.Bytes.{bytes4}
use Rattle.rules.specs.Group.{derived}
use Rattle.parameters.proofs.derived.Goals as goal

pub returns : goal.returns
unfolding derived
returns c =
    let a = c.args in
    let fed = fed_more _ _ (fed_more _ _ (fed_first _ _ _ c.new.ensures c.update.ensures) _ _ c.update-2.ensures) _ _ c.update-3.ensures in
    let digest : c.finish-digest.result ≡ sha256 (a.label.now ++ bytes4 a.g0.0 ++ (a.counter ∷ [])) =
    fed_digest _ _ fed _ c.finish-digest.ensures ∙ ap (λ (l : List ℕ). sha256 (a.label.now ++ l ++ (a.counter ∷ []))) c.to_be_bytes.ensures in
    cc (c.pow.ensures, c.hashed_element-base.ensures, digest)
