-- Equal messages are of the same proof.
pub mod Forms
pub mod Boards
use Prim.Native.Nat.{ℕ, ◌+◌, ◌*◌, ◌≤◌}
use mathlib.Core.Path.{◌≡◌, sym, ap, ◌∙◌}
use mathlib.Core.Bool.{true, and-eq-true_iff}
use mathlib.Core.List.{List, [], ◌∷◌}
use native.Mathlib.Omega.{arith}
use lib.ListN.{length, get_or}
use borrow.Author.Tests.{le-leb, eqb-true}
use Rattle.rules.specs.Proofs.{Context}
use Rattle.rules.specs.Records.{header_length, has_mark}
use Rattle.rules.specs.Tests.{first_fault}
use Rattle.rules.specs.Header.{header, header_fault}
use Rattle.rules.specs.Check.{refused, kind, check_model, check_board}
use Rattle.rules.proofs.Messages.{body, body_long, parts_told, context_told, claim_told, commitments_told}
use Rattle.whole.specs.Messages.{Hashed, branches, statements, context, hashed_message, Fits, SameProof, on_board, Messages}
use Rattle.whole.proofs.Messages.Forms.{mark_long, number_told, size_told, form_told}
use Rattle.whole.proofs.Messages.Boards.{fits, adds_up, number_is}
use Rattle.whole.proofs.SecondDemand.{second_demand}

module _ (x y : Hashed) (f : Fits x) (f' : Fits y) (e : hashed_message x ≡ hashed_message y) where
  told : SameProof x y
  told =
      let mark = mark_long x.n x.number x.form in
      let mark' = mark_long y.n y.number y.form in
      let (same, in_context, bodies) = parts_told x.label y.label (context x) (context y) (branches x) (statements x) (branches y) (statements y)
      x.claim y.claim x.commitments y.commitments f.label_long f'.label_long mark mark' e in
      let c = context_told (context x) (context y) mark mark' (rw (number_told x.n x.number x.form) f.number_below)
      (rw (number_told y.n y.number y.form) f'.number_below) f.place_below f'.place_below in_context in
      let total : branches x * (statements x * 16) ≡ branches y * (statements y * 16) =
      sym (body_long (branches x) (statements x) x.claim x.commitments) ∙ ap length bodies ∙ body_long (branches y) (statements y) y.claim y.commitments in
      let size = size_told x.n y.n x.number y.number x.form y.form c total in
      let b : branches y ≡ branches x = sym size.0 in
      let S : statements y ≡ statements x = sym size.1 in
      let one : body (branches x) (statements x) x.claim x.commitments ≡ body (branches x) (statements x) y.claim y.commitments = rw (b, S) at bodies in
      record {
        same_label = same;
        same_context = c;
        same_branches = size.0;
        same_statements = size.1;
        same_claims = λ l i h k.
            claim_told (branches x) (statements x) x.claim y.claim x.commitments y.commitments one l i h k
            (f.claims_below l i h k) (f'.claims_below l i (omega (arith, b)) (omega (arith, S)));
        same_commitments = λ l i h k.
            commitments_told (branches x) (statements x) x.claim y.claim x.commitments y.commitments one l i h k
            (f.commitments_below l i h k) (f'.commitments_below l i (omega (arith, b)) (omega (arith, S)));
      }

old_mark : (hash : List ℕ → List ℕ) (s : List ℕ) → header_length ≤ length s → has_mark s 0 (72 ∷ 68 ∷ []) ≡ true → check_board hash s ≡ refused 2 0
unfolding check_model header_fault first_fault
old_mark hash s l m =
    let w = (and-eq-true_iff _ _).0 m in
    let first : get_or s 0 0 ≡ 72 = eqb-true _ _ w.0 in
    let second : get_or s 1 0 ≡ 68 = eqb-true _ _ w.1 in
    rw (le-leb header_length (length s) l, first, second)

pub messages : (hash : List ℕ → List ℕ) → Messages hash
messages hash =
    record {
      old_mark = old_mark hash;
      told = told;
      of_boards = λ s rounds order winner a k f l o.
          let w = ((second_demand hash).accepted_iff s rounds order winner).0 a in
          (fits hash s rounds order winner w k l f o, adds_up hash s rounds order winner w k l f o);
      apart = λ s rounds order winner a k k' f f' l l' o o' e.
          let w = ((second_demand hash).accepted_iff s rounds order winner).0 a in
          let x = on_board s k f in
          let y = on_board s k' f' in
          let same = (told x y (fits hash s rounds order winner w k l f o) (fits hash s rounds order winner w k' l' f' o') e).same_context in
          let numbers : x.number ≡ y.number =
          sym (number_told x.n x.number f) ∙ ap (λ (c : Context). c.number) same ∙ number_told y.n y.number f' in
          let n : k + 1 ≡ k' + 1 = sym (number_is hash s rounds order winner w k l f o) ∙ numbers ∙ number_is hash s rounds order winner w k' l' f' o' in
          (omega arith, form_told (header s).n rounds (kind s (header s) k) (kind s (header s) k') x.number y.number f f' o o' same);
    }
