-- "Equal lowest counts" (02): who goes out and who wins, said process against process. Rounds count from 0 here.
use Rattle.std.specs.Prelude.{ℕ, ◌≤◌, ◌<◌, ◌≡◌, ◌↔◌, true, List, length}
use Rattle.rules.specs.Count.{Standing, count_of, count_in, still_in, leaves, wins}

module _ (st : Standing) (a b : ℕ) where
  -- equal in every round between round r and this one
  abbrev pub EqualSince : (r : ℕ) → Type 0
  EqualSince r = (m : ℕ) → r < m → m < length st.sheets → count_in st.sheets m a ≡ count_in st.sheets m b

  -- r is "the latest earlier round where they differ"
  pub record LatestDiffers (r : ℕ) : Type 0 where
    pub earlier : r < length st.sheets
    pub differ : count_in st.sheets r a ≡ count_in st.sheets r b → ⊥
    pub since : EqualSince r

  -- "all rounds agree", those before this one
  abbrev pub AllAgree : Type 0
  AllAgree = (m : ℕ) → m < length st.sheets → count_in st.sheets m a ≡ count_in st.sheets m b

abbrev pub StillIn : (n : ℕ) → Standing → (c : ℕ) → Type 0
StillIn n st c = still_in n st.gone c ≡ true

module _ (n : ℕ) (st : Standing) (counts : List ℕ) where
  -- process c goes out
  pub record GoesOut (c : ℕ) : Type 0 where
    pub still_in_lem : StillIn n st c
    -- no other still in has a lower count
    pub lowest : (d : ℕ) → StillIn n st d → count_of counts c ≤ count_of counts d
    -- "Among those with the lowest count, the one goes out that had fewer in the latest earlier round where they differ"
    pub fewer : (d r : ℕ) → StillIn n st d → count_of counts d ≡ count_of counts c → LatestDiffers st c d r → count_in st.sheets r c < count_in st.sheets r d
    -- "Only if all rounds agree does the highest number go out."
    pub number : (d : ℕ) → StillIn n st d → count_of counts d ≡ count_of counts c → AllAgree st c d → d ≤ c

  -- process c wins: "found the same way, more being better, lowest number last"
  pub record Wins (c : ℕ) : Type 0 where
    pub still_in_lem : StillIn n st c
    pub highest : (d : ℕ) → StillIn n st d → count_of counts d ≤ count_of counts c
    pub more : (d r : ℕ) → StillIn n st d → count_of counts d ≡ count_of counts c → LatestDiffers st c d r → count_in st.sheets r d < count_in st.sheets r c
    pub number : (d : ℕ) → StillIn n st d → count_of counts d ≡ count_of counts c → AllAgree st c d → c ≤ d

  -- the counts of this round are all different
  abbrev pub AllDifferent : Type 0
  AllDifferent = (a b : ℕ) → StillIn n st a → StillIn n st b → count_of counts a ≡ count_of counts b → a ≡ b

-- wherever a process is still in
pub record EqualCounts : Type 0 where
  -- which is so while fewer than n have gone out, so in every round of a count: one goes out a round, and round n - 1 closes it (`closes`)
  pub some_in : (n : ℕ) (st : Standing) → length st.gone < n → (d : ℕ) × StillIn n st d
  pub out_iff : (n : ℕ) (st : Standing) (counts : List ℕ) (d : ℕ) → StillIn n st d → (c : ℕ) → (leaves n st counts ≡ c) ↔ GoesOut n st counts c
  pub wins_iff : (n : ℕ) (st : Standing) (counts : List ℕ) (d : ℕ) → StillIn n st d → (c : ℕ) → (wins n st counts ≡ c) ↔ Wins n st counts c
  -- "equal ones left after that round are compared in the one before it, and so on": of those equal to it in this round and in all since round r
  -- it had the fewest in round r, or the most
  pub out_narrows : (n : ℕ) (st : Standing) (counts : List ℕ) (c d r : ℕ) → GoesOut n st counts c → StillIn n st d → count_of counts d ≡ count_of counts c →
      EqualSince st c d r → r < length st.sheets → count_in st.sheets r c ≤ count_in st.sheets r d
  pub wins_narrows : (n : ℕ) (st : Standing) (counts : List ℕ) (c d r : ℕ) → Wins n st counts c → StillIn n st d → count_of counts d ≡ count_of counts c →
      EqualSince st c d r → r < length st.sheets → count_in st.sheets r d ≤ count_in st.sheets r c
  -- with all counts of a round different the earlier rounds do not matter, nor do the numbers: it is 01's pick, "the process still in with the
  -- lowest count", "with the highest count"
  pub lowest_alone : (n : ℕ) (st : Standing) (counts : List ℕ) → AllDifferent n st counts → (c : ℕ) → StillIn n st c →
      ((d : ℕ) → StillIn n st d → count_of counts c ≤ count_of counts d) → leaves n st counts ≡ c
  pub highest_alone : (n : ℕ) (st : Standing) (counts : List ℕ) → AllDifferent n st counts → (c : ℕ) → StillIn n st c →
      ((d : ℕ) → StillIn n st d → count_of counts d ≤ count_of counts c) → wins n st counts ≡ c
