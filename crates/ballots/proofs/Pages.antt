-- Matrices on a page.
use Prim.Native.Nat.{ℕ, ◌+◌, ◌*◌, ◌-◌, ◌/◌, ◌%◌, ◌≤◌, ◌<◌, ◌^◌}
use mathlib.Core.Path.{◌≡◌, sym, ap, ◌∙◌}
use mathlib.Core.List.{List, ◌++◌}
use native.Mathlib.Nat.{zero-add, lt_of_lt_of_le, div-lt_iff_lt-mul, mul-add-div_right, mul-add-mod_self_right, mod-eq_of_lt, div-eq_of_lt, add-zero, mod-lt, div-add-mod'}
use native.Mathlib.Omega.{arith}
use borrow.Rule.Slice.PartMut.{mid_of, put_mid}
use lib.ListN.{length, get_or, take, drop, length-append, length-take, length-drop, get_or-append}
use lib.Seq.{get_or-take, length-take-le}
use Rattle.numbers.specs.Below.{concat_below}
use Rattle.numbers.proofs.Blocks.{blocks_same, blocks_grid}
use Rattle.group.specs.Arithmetic.{pow_mod}
use Rattle.group.specs.Elements.{Parameters}
use Rattle.rules.specs.Bytes.{bytes4, part, Stands}
use Rattle.rules.specs.Group.{paired}
use Rattle.rules.specs.Claims.{Matrix, matrix_at}
use Rattle.rules.proofs.Places.{stands_whole, stands_left, stands_right, stands_moved, part_stands}
use Rattle.jobs.proofs.Matrices.{SameMatrix, pairs_stand}
use Rattle.output.specs.Written.{written}
use Rattle.output.proofs.Laws.{put_rest}
use Rattle.ballots.specs.Parts.{Paged}
use Rattle.jobs.specs.Records.{secret_at, opened, matrix_of, pair_bytes}
use Rattle.jobs.proofs.Lengths.{length_pairs}

-- a part that reaches the end comes back with b at its front: b stands there, and what stood before it still does
module _ (a k : ℕ) (l r b : List ℕ) (inside : a + k ≡ length l) (e : r ≡ written b (mid_of a k l)) where
  back : put_mid a k l r ≡ take a l ++ (b ++ drop (length b) (mid_of a k l))
  unfolding written
  back =
      let h : k ≡ length l - a = omega arith in
      ap (λ (k : ℕ). put_mid a k l r) h ∙ put_rest a l r (omega arith) ∙ rw e

  count : length (take a l) ≡ a
  count = length-take-le a l (omega arith)

  pub put_long : length b ≤ k → length (put_mid a k l r) ≡ a + k
  put_long h = rw back (simp (length-append, length-drop, length-take) (omega (arith, count)))

  pub put_stands : Stands (put_mid a k l r) a b
  put_stands =
      let rest : List ℕ = drop (length b) (mid_of a k l) in
      rw back (stands_left b rest (stands_moved (zero-add a) (stands_right {at = 0} (take a l) (b ++ rest) count (stands_whole (take a l ++ (b ++ rest))))))

  pub put_keeps : {at : ℕ} {x : List ℕ} → at + length x ≤ a → Stands l at x → Stands (put_mid a k l r) at x
  put_keeps {at} {x} h s =
      let rest : List ℕ = b ++ drop (length b) (mid_of a k l) in
      rw back
      (record {
        fits = simp length-append (omega (arith, count));
        same = λ d m.
            get_or-append (take a l) rest 0 (at + d) (omega (arith, count)) ∙ get_or-take a l (at + d) 0 (omega arith) ∙ s.same d m;
      })

-- what is written at the front stands there
pub front_stands : (b l m : List ℕ) → m ≡ written b l → length b ≤ length l → (length m ≡ length l) × Stands m 0 b
unfolding written
front_stands b l m e h =
    let long : length (b ++ drop (length b) l) ≡ length l = simp (length-append, length-drop) (omega arith) in
    rw e (long, stands_left b _ (stands_whole (b ++ drop (length b) l)))

-- two matrices on one page
pub two_stand : (a k : ℕ) (l m r x y : List ℕ) → a + k ≡ length l → m ≡ written x l → length x ≤ a → length y ≤ k → r ≡ written y (mid_of a k m) →
    (length (put_mid a k m r) ≡ length l) × Stands (put_mid a k m r) 0 x × Stands (put_mid a k m r) a y
two_stand a k l m r x y e em apart fit er =
    let w = front_stands x l m em (omega arith) in
    let whole : a + k ≡ length m = omega (arith, w.0) in
    (put_long a k m r y whole er fit ∙ e, put_keeps a k m r y whole er (omega arith) w.1, put_stands a k m r y whole er)

-- rows of n lists, counted through
pub grid : (rows n : ℕ) (G : ℕ → ℕ → List ℕ) → 0 < n → concat_below (rows * n) (λ c. G (c / n) (c % n)) ≡ concat_below rows (λ i. concat_below n (G i))
grid rows n G h =
    sym (blocks_grid rows n (λ c. G (c / n) (c % n)))
    ∙ blocks_same rows _ _ (λ i k. blocks_same n _ _ (λ j l.
    let d : (i * n + j) / n ≡ i = mul-add-div_right h i j ∙ rw (div-eq_of_lt l) (add-zero i) in
    let m : (i * n + j) % n ≡ j = mul-add-mod_self_right i n j ∙ mod-eq_of_lt l in
    rw (d, m)))

-- the c-th pair
abbrev pub pair_in : (n : ℕ) → Matrix → ℕ → List ℕ
pair_in n M c = bytes4 (M.b (c / n) (c % n)) ++ bytes4 (M.y (c / n) (c % n))

pub pairs_through : (n rows : ℕ) (M : Matrix) → 0 < n → concat_below (rows * n) (pair_in n M) ≡ pair_bytes n M rows
pairs_through n rows M h = grid rows n (λ i j. bytes4 (M.b i j) ++ bytes4 (M.y i j)) h

module _ (g : Parameters) (n : ℕ) (list : ℕ → ℕ) (draws : List ℕ) (from : ℕ) where
  -- the pair made from the c-th draw
  pub made : (c x v : ℕ) → x ≡ get_or draws (from + c) 0 → v ≡ opened list (c / n) (c % n) →
      bytes4 (paired g x v) ++ bytes4 (pow_mod g.p g.g1 x) ≡ pair_in n (matrix_of g n list draws from) c
  unfolding matrix_of
  made c x v ex ev = rw (ex, ev, div-add-mod' c n)

  -- the page is read as the matrix was made
  pub paged_same : (page : List ℕ) (at rows : ℕ) → 0 < g.p → g.p < 4294967296 → Paged page at rows n (matrix_of g n list draws from) →
      SameMatrix rows n (matrix_at page n at) (matrix_of g n list draws from)
  unfolding matrix_of pow_mod
  paged_same page at rows some small s =
      pairs_stand page at n rows (matrix_of g n list draws from)
      (λ i j. omega (arith, mod-lt (pow_mod g.p g.g0 (secret_at n draws from i j) * pow_mod g.p g.g1 (opened list i j)) some))
      (λ i j. omega (arith, mod-lt (g.g1 ^ secret_at n draws from i j) some)) s

pub row_few : (c n rows : ℕ) → 0 < n → rows ≤ 8 → c < rows * n → c / n < 8
row_few c n rows h k l = lt_of_lt_of_le ((div-lt_iff_lt-mul h).1 l) k

-- the pairs are read back from the page
pub pairs_back : (page : List ℕ) (at rows n k : ℕ) (M : Matrix) → k ≡ 8 * (rows * n) → Paged page at rows n M → part page at k ≡ pair_bytes n M rows
pairs_back page at rows n k M e s = part_stands (length_pairs n M rows ∙ sym e) s
