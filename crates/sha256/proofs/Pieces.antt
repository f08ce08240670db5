-- A message fed in pieces has the digest of the whole, and fewer than 64 bytes wait.
use Rattle.std.proofs.Common.{◌≡◌, ℕ, zero, suc, ◌+◌, ◌-◌, ◌*◌, ◌/◌, ◌%◌, ◌^◌, ◌<◌, ◌≤◌, Bool, true, false, cond, ◌&&◌, leb, List, [], ◌∷◌, ◌++◌, length, get_or, take, drop, sym, refl, ap, ◌∙◌, append_assoc, append-nil, add-one, arith, length-drop, take-append-drop, take-suc, drop-drop, leb-true}
use mathlib.Core.Bool.{and-eq-true_iff}
use mathlib.Core.List.{flatten}
use lib.Seq.{take-length}
use Rattle.compression.specs.Block.{H₀}
use Rattle.sha256.specs.Message.{padding, padded, blocks, bytes, sha256}
use Rattle.sha256.specs.Stream.{Stream, empty, feed, feed_all, digest_of, pieces_from}
use Rattle.sha256.specs.Feed.{stream_of}
use Rattle.sha256.specs.Pieces.{Calls, Pieces}
use Rattle.sha256.specs.declared.Hasher.{Hasher}
use Rattle.sha256.proofs.Blocks.{feed_feed}
use Rattle.sha256.proofs.Tail.{padding_mod}

pub feed_none : feed empty [] ≡ empty
unfolding feed empty blocks
feed_none = refl

fed_on : (m : List ℕ) (ps : List (List ℕ)) → feed_all (feed empty m) ps ≡ feed empty (m ++ flatten ps)
unfolding feed_all flatten
fed_on m [] = ap (feed empty) (sym (append-nil m))
fed_on m (p ∷ ps) = ap (λ (s : Stream). feed_all s ps) (feed_feed empty m p) ∙ fed_on (m ++ p) ps ∙ ap (feed empty) (append_assoc m p (flatten ps))

no_trace : (ps : List (List ℕ)) → feed_all empty ps ≡ feed empty (flatten ps)
no_trace ps = ap (λ (s : Stream). feed_all s ps) (sym feed_none) ∙ fed_on [] ps

few : (m : List ℕ) → length (feed empty m).waiting < 64
unfolding feed empty
few m = omega (arith, length-drop (length m / 64 * 64) m)

of_whole : (m : List ℕ) → (feed empty (m ++ padding (feed empty m).total)).value ≡ blocks H₀ (padded m) (length (padded m) / 64)
unfolding feed empty padded
of_whole m =
    let n : (0 + length m) % 2 ^ 64 ≡ length m % 2 ^ 64 = omega arith in
    ap (λ (x : List ℕ). blocks H₀ (m ++ x) (length (m ++ x) / 64)) (ap padding n ∙ padding_mod (length m))

pub digest_fed : (m : List ℕ) → digest_of (feed empty m) ≡ sha256 m
unfolding digest_of sha256
digest_fed m = ap (λ (s : Stream). bytes s.value) (feed_feed empty m (padding (feed empty m).total)) ∙ ap bytes (of_whole m)

whole : (ps : List (List ℕ)) → digest_of (feed_all empty ps) ≡ sha256 (flatten ps)
whole ps = ap digest_of (no_trace ps) ∙ digest_fed (flatten ps)

few_wait : (ps : List (List ℕ)) → length (feed_all empty ps).waiting < 64
few_wait ps = rw (no_trace ps) (few (flatten ps))

-- a cut that is one, and one that is none
either : (b : Bool) (ps qs : List (List ℕ)) (m : List ℕ) → (b ≡ true → flatten ps ≡ m) → flatten qs ≡ m → flatten (cond b ps qs) ≡ m
either true ps qs m f g = f refl
either false ps qs m f g = g

all_fed : (m : List ℕ) (at : ℕ) (cuts : List ℕ) → flatten (pieces_from m at cuts) ≡ drop at m
unfolding pieces_from flatten
all_fed m at [] = append-nil (drop at m)
all_fed m at (c ∷ cs) =
    either (leb at c && leb c (length m)) (take (c - at) (drop at m) ∷ pieces_from m c cs) (drop at m ∷ []) (drop at m)
    (λ t.
    let e : at + (c - at) ≡ c = omega (arith, leb-true at c ((and-eq-true_iff _ _).0 t).0) in
    ap (λ (r : List ℕ). take (c - at) (drop at m) ++ r) (all_fed m c cs ∙ ap (λ (j : ℕ). drop j m) (sym e) ∙ sym (drop-drop (c - at) at m))
    ∙ take-append-drop (c - at) (drop at m))
    (append-nil (drop at m))

feed_last : (s : Stream) (ps : List (List ℕ)) (p : List ℕ) → feed_all s (ps ++ (p ∷ [])) ≡ feed (feed_all s ps) p
unfolding feed_all
feed_last s [] p = refl
feed_last s (q ∷ ps) p = feed_last (feed s q) ps p

called : (ps : List (List ℕ)) (h : ℕ → Hasher) → Calls ps h → (i : ℕ) → i ≤ length ps → stream_of (h i) ≡ feed_all empty (take i ps)
unfolding feed_all
called ps h c zero k = c.first
called ps h c (suc i) k =
    let before = called ps h c i (omega arith) in
    rw (take-suc ps i [] k, feed_last empty (take i ps) (get_or ps i [])) (rw add-one at (c.next i k) ∙ ap (λ (s : Stream). feed s (get_or ps i [])) before)

pub pieces : Pieces
pieces =
    record {
      whole = whole;
      few_wait = few_wait;
      no_trace = no_trace;
      of_calls = λ ps h c digest e. e ∙ ap digest_of (called ps h c (length ps) (omega arith) ∙ ap (feed_all empty) (take-length ps)) ∙ whole ps;
      between_calls = λ ps h c i k. (called ps h c i k ∙ no_trace (take i ps), rw (called ps h c i k) (few_wait (take i ps)));
      all_fed = λ m cuts. all_fed m 0 cuts;
    }
