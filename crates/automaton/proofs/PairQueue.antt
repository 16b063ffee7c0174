-- Two machines compared by breadth-first search over pairs of states, with labels (Hopcroft and Karp): the states of a queued pair get one label, and
-- a pair of one label is not queued. What holds on the way is kept by each turn; at the end the machines are alike, or the first difference found is
-- the earliest.
use mathlib.Core.Path.{◌≡◌, refl, sym, ◌∙◌}
use mathlib.Core.Logic.{◌⊎◌, inl, inr}
use mathlib.Core.List.{[], ◌∷◌, ◌++◌, append_assoc}
use Prim.Native.Nat.{ℕ, suc, ◌+◌, ◌≤◌, ◌<◌}
use native.Mathlib.Omega.{arith}
use native.Mathlib.Decide.{dec_lt}
use lib.Dec.{T}
use Rattle.automaton.specs.History.{History, Earlier, NotLater, Earliest}
use Rattle.automaton.specs.Machine.{Machine, step, Alike, in_one, Distinguishes}
use Rattle.automaton.proofs.Order.{tri, earlier_trans, earlier_append, earlier_code, earlier_longer, not-later-refl, not-later_trans, not-later_append, not-later-code, not-later_longer}
use Rattle.automaton.proofs.Machine.{step_past, after_append, after-zero, alike_of_not_distinguished}
use Rattle.automaton.proofs.Below.{below_suc, count-below_le}
use Rattle.automaton.specs.Parents.{trail, EarlierParents}
use Rattle.automaton.proofs.Parents.{Stored, trail-start, trail-same, trail-last, falls-stored}
use Rattle.automaton.specs.Labels.{Among, Rooted, Divides, own_label}
use Rattle.automaton.proofs.Labels.{Merged, own-rooted, own_undivided, some_label, merge-rooted, merge-fewer, merge-divides}
use Rattle.automaton.proofs.Separation.{HasStates, Separates, separates_after, states_apart, states-not_apart, told_apart_at}
use Rattle.automaton.specs.PairQueue.{possible_at, Pair, Queue, pair_at, IsPair, Apart, Done, Search}

-- the states x and y are put at place m of the queue: code c leads to them from pair i
pub record Added (m i c x y : ℕ) (old new : Queue) : Type 0 where
  pub left : Stored m x old.left new.left
  pub right : Stored m y old.right new.right
  pub parent : Stored m i old.parent new.parent
  pub code : Stored m c old.code new.code

first-pair : (q : Queue) (x y : ℕ) → q.left 0 ≡ x → q.right 0 ≡ y → pair_at q 0 ≡ record { left = x; right = y; history = [] }
unfolding pair_at
first-pair q x y ex ey = λ j. record { left = ex j; right = ey j; history = trail-start q.parent q.code j }

module _ (m i c x y : ℕ) (old new : Queue) (added : Added m i c x y old new) (falls : EarlierParents m old.parent) where
  same-pair : (k : ℕ) → k < m → pair_at new k ≡ pair_at old k
  unfolding pair_at
  same-pair k l = λ j. record {
    left = added.left.same k l j;
    right = added.right.same k l j;
    history = trail-same m old.parent old.code falls i c new.parent new.code added.parent added.code k l j;
  }

  last-pair : i < m → pair_at new m ≡ record { left = x; right = y; history = (pair_at old i).history ++ (c ∷ []) }
  unfolding pair_at
  last-pair l = λ j. record {
    left = added.left.last j;
    right = added.right.last j;
    history = trail-last m old.parent old.code falls i c new.parent new.code added.parent added.code l j;
  }

-- ---- the beginning: the pair of the starts is queued, and of labels that were each number's own those of the two starts are merged
module _ (A B : Machine) (a b : ℕ) (of_a : HasStates A a) (of_b : HasStates B b) (q : Queue) (own label : ℕ → ℕ) where
  pub search_begun : q.left 0 ≡ A.start → q.right 0 ≡ B.start → ((u : ℕ) → Among (a + b) u → own u ≡ u)
      → Merged (a + b) A.start (a + B.start) own label → Search A B a b 1 0 0 q label
  search_begun ex ey each merged = record {
    queue = record {
      some = omega arith;
      first = first;
      pairs = λ k l. rw (only k l, first) (record { left_state = of_a.start; right_state = of_b.start; left_after = refl; right_after = refl });
      ordered = λ j k l h. absurd (omega arith);
      falls = λ k l. absurd (omega arith);
      labelled = λ z d. labelled z (merge-divides (a + b) A.start (a + B.start) own label merged inx iny (possible_at a A B z) d);
      rooted = merge-rooted (a + b) A.start (a + B.start) own label merged inx iny rooted two;
      few = omega (arith, merge-fewer (a + b) A.start (a + B.start) own label merged inx iny rooted two, count-below_le (a + b) (own_label own));
    };
    made = λ l k h. rw (only k h, first) (earlier_longer [] 0 []);
    finished = λ j l. absurd (omega arith);
    tried = λ d l. absurd (omega arith);
  }
    where
      first : pair_at q 0 ≡ record { left = A.start; right = B.start; history = [] }
      first = first-pair q A.start B.start ex ey

      only : (k : ℕ) → k < 1 → k ≡ 0
      only k l = omega arith

      inx : Among (a + b) A.start
      inx = omega (arith, of_a.start)

      iny : Among (a + b) (a + B.start)
      iny = omega (arith, of_b.start)

      rooted : Rooted (a + b) own
      rooted = own-rooted (a + b) own each

      two : own A.start ≡ own (a + B.start) → ⊥
      two e = omega (arith, sym (each A.start inx) ∙ e ∙ each (a + B.start) iny, of_a.start, of_b.start)

      labelled : (z : History)
          → Divides (a + b) own (possible_at a A B z) ⊎ T (in_one (possible_at a A B z A.start) (possible_at a A B z (a + B.start)))
          → (k : ℕ) × (k < 1) × Apart A B (pair_at q k) z
      labelled z (inl d) = absurd (own_undivided (a + b) own each (possible_at a A B z) d)
      labelled z (inr t) = (0, omega arith, rw first (rw (told_apart_at A B a A.start B.start of_a.start.most of_b.start.least z) at t))

module _ (A B : Machine) (a b m i c : ℕ) (q : Queue) (label : ℕ → ℕ) (S : Search A B a b m i c q label) where
  -- the history at hand
  abbrev here : History
  here = (pair_at q i).history ++ (c ∷ [])

  abbrev next : History
  next = (pair_at q i).history ++ (suc c ∷ [])

  here-before-next : Earlier here next
  here-before-next = earlier_code (pair_at q i).history c (suc c) (omega arith)

  -- ---- the turns
  next-code : Done A B m q i c → Search A B a b m i (suc c) q label
  next-code done = record {
    queue = S.queue;
    made = λ l k h. earlier_trans (pair_at q k).history here next (S.made l k h) here-before-next;
    finished = S.finished;
    tried = λ d l. go d (below_suc d c l);
  }
    where
      go : (d : ℕ) → (d < c) ⊎ (d ≡ c) → Done A B m q i d
      go d (inl l) = S.tried d l
      go d (inr e) = rw e done

  -- code c is possible in neither state of pair i
  pub turn_neither : step A (q.left i) c ≡ 0 → step B (q.right i) c ≡ 0 → Search A B a b m i (suc c) q label
  unfolding pair_at
  turn_neither ex ey = next-code (λ z t. absurd (rw (ex, ey, after-zero A z, after-zero B z) at t))

  -- all codes of pair i are tried
  pub turn-pair : A.width ≤ c → B.width ≤ c → Search A B a b m (suc i) 0 q label
  turn-pair wa wb = record {
    queue = S.queue;
    made = λ l k h. earlier_trans (pair_at q k).history here ((pair_at q (suc i)).history ++ (0 ∷ [])) (S.made (omega arith) k h)
        (earlier_append (pair_at q i).history (pair_at q (suc i)).history (c ∷ []) (0 ∷ []) refl (S.queue.ordered i (suc i) (omega arith) l));
    finished = λ j l d. go j d (below_suc j i l) (dec_lt d c);
    tried = λ d l. absurd (omega arith);
  }
    where
      past : (x y d : ℕ) → c ≤ d → (z : History) → Distinguishes A x B y (d ∷ z) → ⊥
      past x y d l z t = rw (step_past A x d (omega arith), step_past B y d (omega arith), after-zero A z, after-zero B z) at t

      go : (j d : ℕ) → (j < i) ⊎ (j ≡ i) → Dec (d < c) → Done A B m q j d
      go j d (inl l) p = S.finished j l d
      go j d (inr e) (yes p) = rw e (S.tried d p)
      go j d (inr e) (no p) = λ z t. absurd (past (pair_at q j).left (pair_at q j).right d (omega arith) z t)

  -- code c leads to the states x and y
  module _ (of_a : HasStates A a) (of_b : HasStates B b) (l : i < m) (x y : ℕ) (ex : step A (q.left i) c ≡ x) (ey : step B (q.right i) c ≡ y)
      (px : 1 ≤ x) (py : 1 ≤ y) where
    leads-left : step A (pair_at q i).left c ≡ x
    unfolding pair_at
    leads-left = ex

    leads-right : step B (pair_at q i).right c ≡ y
    unfolding pair_at
    leads-right = ey

    leads : (z : History) → Apart A B (pair_at q i) (c ∷ z) → Distinguishes A x B y z
    leads z t = rw (← leads-left, ← leads-right) t

    statex : Among a x
    statex = omega (arith, rw ex at (of_a.steps (q.left i) c))

    statey : Among b y
    statey = omega (arith, rw ey at (of_b.steps (q.right i) c))

    inx : Among (a + b) x
    inx = omega (arith, statex)

    iny : Among (a + b) (a + y)
    iny = omega (arith, statey)

    -- they have one label
    pub turn-same : label x ≡ label (a + y) → Search A B a b m i (suc c) q label
    turn-same e = next-code (λ z t.
        let r = S.queue.labelled z (x, a + y, inx, iny, e, rw (told_apart_at A B a x y statex.most py z) (leads z t)) in
        (r.0, r.1, inl (S.made l r.0 r.1), r.2))

    -- they have two labels: these are merged, and the pair goes to the end of the queue
    module _ (two : label x ≡ label (a + y) → ⊥) (q' : Queue) (label' : ℕ → ℕ) (added : Added m i c x y q q')
        (merged : Merged (a + b) x (a + y) label label') where
      abbrev new : Pair
      new = record { left = x; right = y; history = here }

      same : (k : ℕ) → k < m → pair_at q' k ≡ pair_at q k
      same = same-pair m i c x y q q' added S.queue.falls

      last : pair_at q' m ≡ new
      last = last-pair m i c x y q q' added S.queue.falls l

      -- what holds of each old pair and of the new one
      each : (P : ℕ → Pair → Type 0) → ((k : ℕ) → k < m → P k (pair_at q k)) → P m new → (k : ℕ) → k < suc m → P k (pair_at q' k)
      each P old end k h = go (below_suc k m h)
        where
          go : (k < m) ⊎ (k ≡ m) → P k (pair_at q' k)
          go (inl p) = rw (same k p) (old k p)
          go (inr p) = rw (p, last) end

      still-done : (j d : ℕ) → j < m → Done A B m q j d → Done A B (suc m) q' j d
      still-done j d p done z t =
          let r = done z (rw (same j p) at t) in
          (r.0, omega (arith, r.1), rw (same r.0 r.1, same j p) r.2, rw (same r.0 r.1) r.3)

      pub turn-new : Search A B a b (suc m) i (suc c) q' label'
      turn-new = record {
        queue = record {
          some = omega arith;
          first = same 0 S.queue.some ∙ S.queue.first;
          pairs = each (λ k p. IsPair A B a b p) S.queue.pairs (record {
            left_state = statex;
            right_state = statey;
            left_after = after_append A A.start (pair_at q i).history (c ∷ []) ∙ rw (S.queue.pairs i l).left_after leads-left;
            right_after = after_append B B.start (pair_at q i).history (c ∷ []) ∙ rw (S.queue.pairs i l).right_after leads-right;
          });
          ordered = λ j k h p. each (λ k p. j < k → Earlier (pair_at q' j).history p.history)
              (λ k p h. rw (same j (omega arith)) (S.queue.ordered j k h p)) (λ h. rw (same j h) (S.made l j h)) k p h;
          falls = falls-stored m q.parent q.code S.queue.falls i c q'.parent q'.code added.parent added.code l;
          labelled = λ z d. labelled z (merge-divides (a + b) x (a + y) label label' merged inx iny (possible_at a A B z) d);
          rooted = merge-rooted (a + b) x (a + y) label label' merged inx iny S.queue.rooted two;
          few = omega (arith, S.queue.few, merge-fewer (a + b) x (a + y) label label' merged inx iny S.queue.rooted two);
        };
        made = λ h. each (λ k p. Earlier p.history ((pair_at q' i).history ++ (suc c ∷ [])))
            (λ k p. rw (same i l) (earlier_trans (pair_at q k).history here next (S.made l k p) here-before-next)) (rw (same i l) here-before-next);
        finished = λ j h d. still-done j d (omega arith) (S.finished j h d);
        tried = λ d h. tried d (below_suc d c h);
      }
        where
          tried : (d : ℕ) → (d < c) ⊎ (d ≡ c) → Done A B (suc m) q' i d
          tried d (inl p) = still-done i d l (S.tried d p)
          tried d (inr e) = λ z t. (m, omega arith, rw (last, same i l, e) (not-later-refl here), rw last (leads z (rw (same i l, e) at t)))

          labelled : (z : History) → Divides (a + b) label (possible_at a A B z) ⊎ T (in_one (possible_at a A B z x) (possible_at a A B z (a + y)))
              → (k : ℕ) × (k < suc m) × Apart A B (pair_at q' k) z
          labelled z (inl d) = let r = S.queue.labelled z d in (r.0, omega (arith, r.1), rw (same r.0 r.1) r.2)
          labelled z (inr t) = (m, omega arith, rw last (rw (told_apart_at A B a x y statex.most py z) at t))

  -- ---- at any time
  pub search-left : (k : ℕ) → k < m → Among a (q.left k)
  unfolding pair_at
  search-left k l = (S.queue.pairs k l).left_state

  pub search-right : (k : ℕ) → k < m → Among b (q.right k)
  unfolding pair_at
  search-right k l = (S.queue.pairs k l).right_state

  -- there are fewer pairs than states, since a label is left
  pub search-few : m < a + b
  search-few =
      let start : Among (a + b) (q.left 0) = omega (arith, search-left 0 S.queue.some) in
      omega (arith, some_label (a + b) label S.queue.rooted (q.left 0) start, S.queue.few)

  -- ---- the end
  from_first : (z : History) → Separates A B z → Apart A B (pair_at q 0) z
  from_first z t = rw S.queue.first t

  not_apart : (k : ℕ) → k < m → Apart A B (pair_at q k) [] → ⊥
  not_apart k l =
      let p = S.queue.pairs k l in
      states-not_apart (pair_at q k).left (pair_at q k).right p.left_state.least p.right_state.least

  -- all pairs are finished: the machines are alike
  pub search_alike : m ≤ i → Alike A A.start B B.start
  search_alike l = alike_of_not_distinguished A A.start B B.start (λ h t. none h 0 S.queue.some (from_first h t))
    where
      none : (z : History) (k : ℕ) → k < m → Apart A B (pair_at q k) z → ⊥
      none [] k b t = not_apart k b t
      none (d ∷ z) k b t = let r = S.finished k (omega arith) d z t in none z r.0 r.1 r.3

  -- code c is possible in just one state of pair i: the history at hand is the earliest that is possible in just one machine
  module _ (l : i < m) (x y : ℕ) (ex : step A (q.left i) c ≡ x) (ey : step B (q.right i) c ≡ y)
      (one : ((1 ≤ x) × (y ≡ 0)) ⊎ ((x ≡ 0) × (1 ≤ y))) where
    parts : Apart A B (pair_at q i) (c ∷ [])
    unfolding pair_at
    parts = rw (ex, ey) (states_apart x y one)

    done-or-not-earlier : (j d : ℕ) → j < m → Done A B m q j d ⊎ NotLater here ((pair_at q j).history ++ (d ∷ []))
    done-or-not-earlier j d b = go (tri j i) (dec_lt d c)
      where
        go : (j < i) ⊎ ((j ≡ i) ⊎ (i < j)) → Dec (d < c) → Done A B m q j d ⊎ NotLater here ((pair_at q j).history ++ (d ∷ []))
        go (inl p) r = inl (S.finished j p d)
        go (inr (inl p)) (yes r) = inl (rw p (S.tried d r))
        go (inr (inl p)) (no r) = inr (rw p (not-later-code (pair_at q i).history c d (omega arith)))
        go (inr (inr p)) r = inr (inl (earlier_append (pair_at q i).history (pair_at q j).history (c ∷ []) (d ∷ []) refl (S.queue.ordered i j p b)))

    not_earlier : (z : History) (j : ℕ) → j < m → Apart A B (pair_at q j) z → NotLater here ((pair_at q j).history ++ z)
    not_earlier [] j b t = absurd (not_apart j b t)
    not_earlier (d ∷ z) j b t = rw append_assoc at (go (not_earlier z) (done-or-not-earlier j d b))
      where
        begun : History
        begun = (pair_at q j).history ++ (d ∷ [])

        go : ((k : ℕ) → k < m → Apart A B (pair_at q k) z → NotLater here ((pair_at q k).history ++ z)) → Done A B m q j d ⊎ NotLater here begun
            → NotLater here (begun ++ z)
        go ih (inl p) =
            let r = p z t in
            not-later_trans here ((pair_at q r.0).history ++ z) (begun ++ z) (ih r.0 r.1 r.3)
            (not-later_append (pair_at q r.0).history begun z r.2)
        go ih (inr p) = not-later_trans here begun (begun ++ z) p (not-later_longer begun z)

    earliest : Earliest (Separates A B) here
    earliest = (
      rw (separates_after A B (pair_at q i).history (c ∷ []), (S.queue.pairs i l).left_after, (S.queue.pairs i l).right_after) parts,
      λ k t. rw S.queue.first at (not_earlier k 0 S.queue.some (from_first k t)),
    )

    pub search-found : Earliest (Separates A B) (trail q.parent q.code i ++ (c ∷ []))
    unfolding pair_at
    search-found = earliest
