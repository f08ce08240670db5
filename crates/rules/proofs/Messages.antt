-- The message of a challenge: it depends on the claims and commitments of its own statements alone, and it tells them all.
use Prim.Native.Nat.{ℕ, ◌+◌, ◌*◌, ◌^◌, ◌<◌}
use mathlib.Core.Path.{◌≡◌, refl, sym, ap, ap₂, subst, ◌∙◌}
use mathlib.Core.List.{List, [], ◌∷◌, ◌++◌}
use native.Mathlib.Omega.{arith}
use lib.ListN.{length, get_or, length-append}
use Rattle.numbers.specs.Below.{concat_below}
use Rattle.numbers.proofs.Blocks.{blocks_same, length_blocks}
use Rattle.rules.specs.Bytes.{number2, number4, bytes2, bytes4, Stands}
use Rattle.rules.specs.Proofs.{Statement, Commitments, Context, context_bytes, statement_bytes, message}
use Rattle.rules.proofs.Lists.{split}
use Rattle.rules.proofs.Places.{stands_whole, stands_left, stands_right, stands_moved, stands_block, half_stands, word_stands}

pub message_same : (label : List ℕ) (c : Context) (branches statements : ℕ) (claim claim' : ℕ → ℕ → Statement) (t t' : ℕ → ℕ → Commitments) →
    ((l i : ℕ) → l < branches → i < statements → claim l i ≡ claim' l i) → ((l i : ℕ) → l < branches → i < statements → t l i ≡ t' l i) →
    message label c branches statements claim t ≡ message label c branches statements claim' t'
unfolding message
message_same label c branches statements claim claim' t t' same near =
    ap (λ (m : List ℕ). label ++ context_bytes c ++ m)
    (blocks_same branches _ _ (λ l h. blocks_same statements _ _ (λ i k. ap₂ statement_bytes (same l i h k) (near l i h k))))

-- ---- what it tells
half_told : (x y : ℕ) → x < 2 ^ 16 → y < 2 ^ 16 → bytes2 x ≡ bytes2 y → x ≡ y
half_told x y l l' e =
    sym (half_stands (omega (arith, l)) (stands_whole (bytes2 x))) ∙ ap (λ (s : List ℕ). number2 s 0) e ∙ half_stands (omega (arith, l')) (stands_whole (bytes2 y))

context_long : (c : Context) → length c.mark ≡ 2 → length (context_bytes c) ≡ 7
context_long c mark = simp length-append (omega (arith, mark))

module _ (c d : Context) (mark : length c.mark ≡ 2) (mark' : length d.mark ≡ 2) where
  -- numbers and places of 2 bytes each
  pub context_told : c.number < 2 ^ 16 → d.number < 2 ^ 16 → c.place < 2 ^ 16 → d.place < 2 ^ 16 → context_bytes c ≡ context_bytes d → c ≡ d
  context_told cn dn cp dp e =
      let front : List ℕ = c.mark ++ bytes2 c.number in
      let front' : List ℕ = d.mark ++ bytes2 d.number in
      let long : length front ≡ 4 = simp length-append (omega (arith, mark)) in
      let long' : length front' ≡ 4 = simp length-append (omega (arith, mark')) in
      let w = split 5 (front ++ (c.round ∷ [])) (front' ++ (d.round ∷ [])) (bytes2 c.place) (bytes2 d.place)
      (simp length-append (omega (arith, mark))) (simp length-append (omega (arith, mark'))) e in
      let v = split 4 front front' (c.round ∷ []) (d.round ∷ []) long long' w.0 in
      let u = split 2 c.mark d.mark (bytes2 c.number) (bytes2 d.number) mark mark' v.0 in
      let number = half_told c.number d.number cn dn u.1 in
      let round : c.round ≡ d.round = ap (λ (s : List ℕ). get_or s 0 0) v.1 in
      let at = half_told c.place d.place cp dp w.1 in
      λ i. record { mark = u.0 i; number = number i; round = round i; place = at i }

-- a statement read where it stands
module _ (s : List ℕ) (at : ℕ) (st : Statement) (t : Commitments) (h : Stands s at (statement_bytes st t)) where
  abbrev three : List ℕ
  three = bytes4 st.left ++ bytes4 st.right ++ bytes4 t.t1

  claim_read : st.left < 2 ^ 32 → st.right < 2 ^ 32 → st ≡ record { left = number4 s at; right = number4 s (at + 4) }
  claim_read l r =
      let two = stands_left (bytes4 st.left ++ bytes4 st.right) (bytes4 t.t1) (stands_left three (bytes4 t.t2) h) in
      let a = word_stands {x = st.left} (omega (arith, l)) (stands_left (bytes4 st.left) (bytes4 st.right) two) in
      let b = word_stands {x = st.right} (omega (arith, r)) (stands_right (bytes4 st.left) (bytes4 st.right) refl two) in
      λ i. record { left = sym a i; right = sym b i }

  commitments_read : t.t1 < 2 ^ 32 → t.t2 < 2 ^ 32 → t ≡ record { t1 = number4 s (at + 8); t2 = number4 s (at + 12) }
  commitments_read l r =
      let a = word_stands {x = t.t1} (omega (arith, l)) (stands_right (bytes4 st.left ++ bytes4 st.right) (bytes4 t.t1) refl (stands_left three (bytes4 t.t2) h)) in
      let b = word_stands {x = t.t2} (omega (arith, r)) (stands_right three (bytes4 t.t2) refl h) in
      λ i. record { t1 = sym a i; t2 = sym b i }

-- what follows the context
module _ (branches statements : ℕ) (claim : ℕ → ℕ → Statement) (t : ℕ → ℕ → Commitments) where
  unfoldable pub body : List ℕ
  body = concat_below branches (λ l. concat_below statements (λ i. statement_bytes (claim l i) (t l i)))

  branch_long : (l : ℕ) → length (concat_below statements (λ i. statement_bytes (claim l i) (t l i))) ≡ statements * 16
  branch_long l = length_blocks statements 16 _ (λ _ _. refl)

  pub body_long : length body ≡ branches * (statements * 16)
  unfolding body
  body_long = length_blocks branches (statements * 16) _ (λ l _. branch_long l)

  statement_stands : (l i : ℕ) → l < branches → i < statements → Stands body (l * (statements * 16) + i * 16) (statement_bytes (claim l i) (t l i))
  unfolding body
  statement_stands l i a b =
      stands_moved (omega arith) (stands_block statements 16 _ (λ _ _. refl) (stands_block branches (statements * 16) _ (λ l _. branch_long l) (stands_whole body) l a) i b)

pub message_long : (label : List ℕ) (c : Context) (branches statements : ℕ) (claim : ℕ → ℕ → Statement) (t : ℕ → ℕ → Commitments) →
    length label ≡ 32 → length c.mark ≡ 2 → length (message label c branches statements claim t) ≡ 39 + branches * (statements * 16)
unfolding message body
message_long label c branches statements claim t long mark =
    simp length-append (omega (arith, long, context_long c mark, body_long branches statements claim t))

-- each statement, from equal bodies of one size
module _ (branches statements : ℕ) (claim claim' : ℕ → ℕ → Statement) (t t' : ℕ → ℕ → Commitments)
    (e : body branches statements claim t ≡ body branches statements claim' t') (l i : ℕ) (a : l < branches) (b : i < statements) where
  abbrev s : List ℕ
  s = body branches statements claim t

  abbrev at : ℕ
  at = l * (statements * 16) + i * 16

  here : Stands s at (statement_bytes (claim l i) (t l i))
  here = statement_stands branches statements claim t l i a b

  there : Stands s at (statement_bytes (claim' l i) (t' l i))
  there = subst (λ (z : List ℕ). Stands z at (statement_bytes (claim' l i) (t' l i))) (sym e) (statement_stands branches statements claim' t' l i a b)

  pub claim_told : ((claim l i).left < 2 ^ 32) × ((claim l i).right < 2 ^ 32) → ((claim' l i).left < 2 ^ 32) × ((claim' l i).right < 2 ^ 32) → claim l i ≡ claim' l i
  claim_told w w' = claim_read s at _ _ here w.0 w.1 ∙ sym (claim_read s at _ _ there w'.0 w'.1)

  pub commitments_told : ((t l i).t1 < 2 ^ 32) × ((t l i).t2 < 2 ^ 32) → ((t' l i).t1 < 2 ^ 32) × ((t' l i).t2 < 2 ^ 32) → t l i ≡ t' l i
  commitments_told w w' = commitments_read s at _ _ here w.0 w.1 ∙ sym (commitments_read s at _ _ there w'.0 w'.1)

-- label, context and body
pub parts_told : (label label' : List ℕ) (c d : Context) (b S b' S' : ℕ) (claim claim' : ℕ → ℕ → Statement) (t t' : ℕ → ℕ → Commitments) →
    length label ≡ 32 → length label' ≡ 32 → length c.mark ≡ 2 → length d.mark ≡ 2 →
    message label c b S claim t ≡ message label' d b' S' claim' t' → (label ≡ label') × (context_bytes c ≡ context_bytes d) × (body b S claim t ≡ body b' S' claim' t')
unfolding message body
parts_told label label' c d b S b' S' claim claim' t t' long long' mark mark' e =
    let w = split 39 (label ++ context_bytes c) (label' ++ context_bytes d) _ _
    (simp length-append (omega (arith, long, context_long c mark))) (simp length-append (omega (arith, long', context_long d mark'))) e in
    let v = split 32 label label' _ _ long long' w.0 in
    (v.0, v.1, w.1)
