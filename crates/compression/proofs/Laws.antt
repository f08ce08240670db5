-- Laws of the schedule and the rounds.
use Rattle.std.proofs.Common.{◌≡◌, ℕ, suc, ◌+◌, ◌<◌, List, [], ◌∷◌, length, take, set, sym, refl, ap, ◌∙◌, add-one, arith, get_or-take, take-suc-set}
use Rattle.compression.specs.Words.{◌⊞◌, σ₀, σ₁}
use Rattle.compression.specs.Block.{K, ◌!◌, word, words, next, schedule, T₁, T₂, round, rounds, sums, compress}

pub words_more : (b w : List ℕ) (i x : ℕ) → i < length w → take i w ≡ words b i → x ≡ word b i → take (i + 1) (set w i x) ≡ words b (i + 1)
unfolding words
words_more b w i x h e d = rw (add-one, ← d) (take-suc-set w i x h ∙ rw e refl)

-- the word after the front, made of the front's words
pub schedule_more : (b w : List ℕ) (n x : ℕ) → n + 16 < length w → take (n + 16) w ≡ schedule b n
    → x ≡ σ₁ (w ! (n + 14)) ⊞ w ! (n + 9) ⊞ σ₀ (w ! (n + 1)) ⊞ w ! n
    → take (n + 1 + 16) (set w (n + 16) x) ≡ schedule b (n + 1)
unfolding schedule next
schedule_more b w n x h e d =
    let at : (k : ℕ) → k < n + 16 → w ! k ≡ schedule b n ! k = λ k hk. sym (get_or-take (n + 16) w k 0 hk) ∙ ap (λ (l : List ℕ). l ! k) e in
    let s : n + 1 + 16 ≡ suc (n + 16) = omega arith in
    let f : x ≡ next (schedule b n) n =
    cc (at n (omega arith), at (n + 1) (omega arith), at (n + 9) (omega arith), at (n + 14) (omega arith)) in
    rw (s, add-one, ← f) (take-suc-set w (n + 16) x h ∙ rw e refl)

-- the eight working variables are the words of s
pub record Eight (s : List ℕ) (a b c d e f g h : ℕ) : Type 0 where
  pub is_a : a ≡ s ! 0
  pub is_b : b ≡ s ! 1
  pub is_c : c ≡ s ! 2
  pub is_d : d ≡ s ! 3
  pub is_e : e ≡ s ! 4
  pub is_f : f ≡ s ! 5
  pub is_g : g ≡ s ! 6
  pub is_h : h ≡ s ! 7

-- a round, as the code does it
pub rounds_more : (ws s : List ℕ) (t a b c d e f g h k w t1 t2 a' e' : ℕ) → Eight (rounds ws s t) a b c d e f g h
    → k ≡ K ! t → w ≡ ws ! t → t1 ≡ T₁ e f g h k w → t2 ≡ T₂ a b c → e' ≡ d ⊞ t1 → a' ≡ t1 ⊞ t2
    → Eight (rounds ws s (t + 1)) a' a b c e' e f g
unfolding rounds round
rounds_more ws s t a b c d e f g h k w t1 t2 a' e' v p q p1 p2 pe pa =
    rw add-one
    (record {
      is_a = cc;
      is_b = v.is_a;
      is_c = v.is_b;
      is_d = v.is_c;
      is_e = cc;
      is_f = v.is_e;
      is_g = v.is_f;
      is_h = v.is_g;
    })

-- after the rounds, the sums
pub compress_end : (s m ws : List ℕ) (t a b c d e f g h a' b' c' d' e' f' g' h' : ℕ) → ws ≡ schedule m 48 → t ≡ 64
    → Eight (rounds ws s t) a b c d e f g h
    → a' ≡ s ! 0 ⊞ a → b' ≡ s ! 1 ⊞ b → c' ≡ s ! 2 ⊞ c → d' ≡ s ! 3 ⊞ d
    → e' ≡ s ! 4 ⊞ e → f' ≡ s ! 5 ⊞ f → g' ≡ s ! 6 ⊞ g → h' ≡ s ! 7 ⊞ h
    → a' ∷ b' ∷ c' ∷ d' ∷ e' ∷ f' ∷ g' ∷ h' ∷ [] ≡ compress s m
unfolding compress sums
compress_end s m ws t a b c d e f g h a' b' c' d' e' f' g' h' w q v pa pb pc pd pe pf pg ph = cc
