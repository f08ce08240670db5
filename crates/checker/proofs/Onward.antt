-- From round to round, and from the header to the verdict.
use Prim.Native.Nat.{ℕ, suc, ◌+◌, ◌-◌, ◌≤◌, ◌<◌}
use mathlib.Core.Path.{◌≡◌, refl, sym, ap, ◌∙◌}
use mathlib.Core.Bool.{Bool, true, false, true≢false, and-eq-true_iff}
use mathlib.Core.List.{List, [], ◌∷◌, ◌++◌}
use mathlib.Core.Option.{Option, none, some}
use native.Mathlib.Numerals.{add-one}
use native.Mathlib.Omega.{arith}
use lib.ListN.{length}
use lib.Dec.{eqb}
use borrow.Author.Tests.{ne_eqb, not-true}
use Rattle.sha256.specs.Message.{sha256}
use Rattle.rules.specs.Tests.{fault_below}
use Rattle.rules.specs.Count.{table, next, leaves, wins, closes, start, ended, Standing, Result}
use Rattle.rules.specs.Header.{Header, ranked, header}
use Rattle.rules.specs.Check.{Verdict, accepted, refused, record_fault, round_sheet_fault, due, counted, round_verdict, check_from, check_model, counts}
use Rattle.rules.specs.Answers.{refusal_number, verdict_of, with_zeros, order_of}
use Rattle.rules.specs.declared.Accepted.{Accepted}
use Rattle.rules.specs.declared.Refused.{Refused}
use Rattle.rules.specs.declared.Model.{Model}
use Rattle.rules.specs.declared.Refusal.{Refusal}
use Rattle.rules.proofs.Leaving.{leaves_in_lem}
use Rattle.count.specs.declared.Count.{Count}
use Rattle.count.specs.State.{standing_of, result_of, Kept}
use Rattle.count.proofs.Picks.{gone_is, listed_many, padded_order}
use Rattle.header.specs.declared.Head.{Head}
use Rattle.std.specs.Prelude as P
use Rattle.std.specs.Prelude.{Ok, Err, IfOk}
use Rattle.header.specs.Heads.{head_of, HeaderKnown, HeaderReads}
use Rattle.rules.proofs.RefusalNumbers.{positive}
use Rattle.numbers.proofs.Tests.{by_cases}
use Rattle.checker.specs.Models.{Narrower}
use Rattle.checker.specs.Counts.{goes_on, stops_from, stops_at, Ends, Verified}
use Rattle.checker.specs.declared.Counted.{Counted}

-- ---- the standing count
pub one_leaves : (n : ℕ) (c : Count) (cs : List ℕ) → Kept c → c.gone.outs < n → 1 ≤ leaves n (standing_of n c) cs
one_leaves n c cs k l =
    (leaves_in_lem n (standing_of n c) cs (rw (gone_is n c, listed_many c.gone k.listed) l)).low

-- the sheets so far, and one more
pub sheets_more : (s : List ℕ) (H : Header) (m : ℕ) (st st' : Standing) → st.sheets ≡ table m (counts s H) → st' ≡ next H.n st (counts s H m) →
    st'.sheets ≡ table (m + 1) (counts s H)
unfolding table
sheets_more s H m st st' t e = ap (λ (x : Standing). x.sheets) e ∙ rw (t, add-one m)

pub verdict_of_lem : (n : ℕ) (c : Count) (winner : ℕ) → verdict_of (Ok (record { rounds = c.gone.outs + 1; winner = winner; order = c.gone.order })) ≡ accepted (c.gone.outs + 1) (standing_of n c).gone winner
verdict_of_lem n c winner =
    let e : c.gone.outs + 1 - 1 ≡ c.gone.outs = omega arith in
    ap (λ (l : List ℕ). accepted (c.gone.outs + 1) l winner) (rw e (sym (gone_is n c)))

-- the count ended by the sheet of round m
pub ends_with : (s : List ℕ) (H : Header) (m winner : ℕ) (c handed : Count) → H.n ≤ 8 → handed.gone.outs < H.n → Kept handed → length (standing_of H.n c).sheets ≡ m →
    (standing_of H.n c).sheets ≡ table m (counts s H) →
    result_of H.n (record { count = handed; winner = winner }) ≡ ended H.n (standing_of H.n c) (counts s H m) →
    Ends s H (m + 1) (standing_of H.n c).gone winner H.n handed
unfolding result_of table
ends_with s H m winner c handed high few k long t e =
    let counted : (standing_of H.n c).sheets ++ (counts s H m ∷ []) ≡ table (m + 1) (counts s H) = rw (t, add-one m) in
    let who : wins H.n (standing_of H.n c) (counts s H m) ≡ winner = sym (ap (λ (r : Result). r.winner) e) in
    record {
      same_n = refl;
      high = high;
      few = few;
      kept = k;
      result = e ∙ (λ i. record { rounds = long i + 1; counts = counted i; order = (standing_of H.n c).gone; winner = who i });
    }

-- ---- the rounds: what is due from round m on
module _ (s : List ℕ) (H : Header) (X : Verdict) (st : Standing) (m a : ℕ) (l : m < H.n) (x : X ≡ check_from sha256 s H (H.n - m) st m a) where
  step : X
      ≡ round_verdict sha256 s H st m a (check_from sha256 s H (H.n - (m + 1)) (next H.n st (counts s H m)) (suc m) (leaves H.n st (counts s H m)))
  unfolding check_from
  step = let e : H.n - m ≡ suc (H.n - (m + 1)) = omega arith in x ∙ rw e

  pub ends : (W : Verdict) → ((after : Verdict) → round_verdict sha256 s H st m a after ≡ W) → X ≡ W
  ends W r = step ∙ r _

  pub goes_on_lem : ((after : Verdict) → round_verdict sha256 s H st m a after ≡ after) → (st' : Standing) (a' : ℕ) →
      st' ≡ next H.n st (counts s H m) → a' ≡ leaves H.n st (counts s H m) → X ≡ check_from sha256 s H (H.n - (m + 1)) st' (m + 1) a'
  goes_on_lem r st' a' es ea = step ∙ r _ ∙ rw (← es, ← ea, add-one m)

-- ---- where the check stops
module _ (s : List ℕ) (H : Header) (st : Standing) (m a : ℕ) where
  abbrev verdict_after : Verdict → Verdict
  verdict_after = round_verdict sha256 s H st m a

  abbrev sheet_sound : Bool
  sheet_sound = eqb (round_sheet_fault s H m (due H.n (counted s H) st (counts s H m))) 0

  -- a round that goes on has the verdict of what comes after it, and any other one of its own
  goes : goes_on sha256 s H st m a ≡ true → (after : Verdict) → verdict_after after ≡ after
  unfolding goes_on round_verdict
  goes e after = by_fault (fault_below H.K (record_fault sha256 s H a m)) refl
    where
      by_fault : (f : Option (ℕ × ℕ)) → fault_below H.K (record_fault sha256 s H a m) ≡ f → verdict_after after ≡ after
      by_fault (some w) q = let z : false ≡ true = rw (q, goes_on) at e in absurd (true≢false (sym z))
      by_fault none q =
          let z = rw (q, goes_on) at e in
          let both = (and-eq-true_iff sheet_sound _).0 z in
          rw (q, round_verdict, both.0, not-true (closes H.n st (counts s H m) (counted s H)) both.1)

  stops : goes_on sha256 s H st m a ≡ false → (x y : Verdict) → verdict_after x ≡ verdict_after y
  unfolding goes_on round_verdict
  stops e x y = by_fault (fault_below H.K (record_fault sha256 s H a m)) refl
    where
      by_sheet : (b c : Bool) → sheet_sound ≡ b → closes H.n st (counts s H m) (counted s H) ≡ c → fault_below H.K (record_fault sha256 s H a m) ≡ none → verdict_after x ≡ verdict_after y
      by_sheet false c f k q = rw (q, round_verdict, f)
      by_sheet true true f k q = rw (q, round_verdict, f, k)
      by_sheet true false f k q = let z : true ≡ false = rw (q, goes_on, f, k) at e in absurd (true≢false z)

      by_fault : (f : Option (ℕ × ℕ)) → fault_below H.K (record_fault sha256 s H a m) ≡ f → verdict_after x ≡ verdict_after y
      by_fault (some w) q = rw (q, round_verdict)
      by_fault none q = by_sheet sheet_sound (closes H.n st (counts s H m) (counted s H)) refl refl q

  pub refused_here : (w number : ℕ) → ((after : Verdict) → verdict_after after ≡ refused w number) → goes_on sha256 s H st m a ≡ false
  refused_here w number r =
      by_cases (goes_on sha256 s H st m a)
      (λ e. let z : accepted 0 [] 0 ≡ refused w number = sym (goes e (accepted 0 [] 0)) ∙ r _ in let o : ◌≡◌ {A = ℕ} 0 1 = cc in absurd (omega arith))
      (λ e. e)

  pub open_here : ((after : Verdict) → verdict_after after ≡ after) → goes_on sha256 s H st m a ≡ true
  open_here r =
      by_cases (goes_on sha256 s H st m a) (λ e. e)
      (λ e. let z : accepted 0 [] 0 ≡ refused 0 0 = sym (r _) ∙ stops e _ _ ∙ r _ in let o : ◌≡◌ {A = ℕ} 0 1 = cc in absurd (omega arith))

-- the standing count where the check stops is that of the round, or is found from the next on
module _ (s : List ℕ) (H : Header) (Z : Standing) (st : Standing) (m a : ℕ) (l : m < H.n) (x : Z ≡ stops_from sha256 s H (H.n - m) st m a) where
  pub stops_here : goes_on sha256 s H st m a ≡ false → Z ≡ st
  unfolding stops_from
  stops_here e = let f : H.n - m ≡ suc (H.n - (m + 1)) = omega arith in x ∙ rw (f, e)

  pub stops_later : goes_on sha256 s H st m a ≡ true → (st' : Standing) (a' : ℕ) → st' ≡ next H.n st (counts s H m) → a' ≡ leaves H.n st (counts s H m) →
      Z ≡ stops_from sha256 s H (H.n - (m + 1)) st' (m + 1) a'
  unfolding stops_from
  stops_later e st' a' es ea = let f : H.n - m ≡ suc (H.n - (m + 1)) = omega arith in x ∙ rw (f, e, ← es, ← ea, add-one m)

-- ---- the header of a board of a model
module _ (model : Model) (s : List ℕ) where
  pub known_ranked : (h : Head) → Narrower model → HeaderKnown model s h → HeaderKnown ranked s h
  known_ranked h w k =
      record { ready = k.ready; low = omega (arith, w.least, k.low); high = omega (arith, w.most, k.high); some = k.some; few = omega (arith, w.ballots, k.few); long = k.long }

  pub board_is : (h : Head) → HeaderReads model s (Ok h) → check_from sha256 s (head_of s h) h.n start 0 0 ≡ check_model sha256 s model
  unfolding HeaderReads check_model
  board_is h o = rw o.0 (ap (λ (H : Header). check_from sha256 s H H.n start 0 0) o.1)

  pub counted_is : (h : Head) (r : Counted) → HeaderReads model s (Ok h) → Verified s (head_of s h) (check_from sha256 s (head_of s h) h.n start 0 0) (stops_from sha256 s (head_of s h) h.n start 0 0) r →
      Verified s (header s) (check_model sha256 s model) (stops_at sha256 s model) r
  unfolding HeaderReads stops_at
  counted_is h r o w =
      let standing : stops_from sha256 s (head_of s h) h.n start 0 0 ≡ stops_at sha256 s model = rw o.0 (ap (λ (H : Header). stops_from sha256 s H H.n start 0 0) o.1) in
      rw (← board_is h o, ← standing, ← o.1) w

  pub refused_is : (w : Refusal) → HeaderReads model s (Err w) → refused (refusal_number w) 0 ≡ check_model sha256 s model
  unfolding HeaderReads check_model
  refused_is w o = rw (o, ne_eqb (refusal_number w) 0 (λ z. omega (arith, positive w)))

  pub starts_there : (w : Refusal) → HeaderReads model s (Err w) → start ≡ stops_at sha256 s model
  unfolding HeaderReads stops_at
  starts_there w o = rw (o, ne_eqb (refusal_number w) 0 (λ z. omega (arith, positive w)))

-- ---- the order of going out, with zeros up to 8
module _ (s : List ℕ) (h : Header) (v : Verdict) (st : Standing) (r : Counted) (w : Verified s h v st r) where
  ends_order : (rounds : ℕ) (order : List ℕ) (winner : ℕ) → Ends s h rounds order winner r.n r.count → r.count.gone.order ≡ with_zeros order
  unfolding result_of
  ends_order rounds order winner e = padded_order r.count.gone e.kept.listed ∙ ap with_zeros (ap (λ (x : Result). x.order) e.result)

  pub verified_order : IfOk r.verdict (λ a. a.order ≡ order_of v)
  verified_order = go r.verdict w.verdict w.ordered
    where
      go : (o : P.Result Accepted Refused) → verdict_of o ≡ v → IfOk o (λ a. a.order ≡ r.count.gone.order) → IfOk o (λ a. a.order ≡ order_of v)
      go (Ok a) e g = g ∙ rw (← e) (ends_order a.rounds _ a.winner (rw (← e) at w.counted))
      go (Err x) e g = tt
