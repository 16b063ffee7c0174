-- The search over two books in bytes: it begins, each code keeps what holds, and at the end the comparison is known.
use mathlib.Core.Path.{◌≡◌, refl, ap, sym, ◌∙◌}
use mathlib.Core.Logic.{◌⊎◌, inl, inr}
use mathlib.Core.List.{List, [], ◌∷◌, ◌++◌}
use mathlib.Core.Option.{Option as Maybe, none, some}
use Prim.Native.Nat.{ℕ, suc, ◌+◌, ◌≤◌, ◌<◌}
use native.Mathlib.Numerals.{add-one}
use native.Mathlib.Omega.{arith}
use native.Mathlib.Decide.{dec_lt}
use borrow.Author.Tests.{lt-ltb, le-ltb}
use lib.Dec.{ltb}
use Rattle.std.specs.Prelude.{Option, Some, None, MatchOption}
use Rattle.std.specs.Bool.{then_some}
use lib.ListN.{length, get_or, length-map}
use Rattle.automaton.specs.History.{History}
use Rattle.automaton.specs.Machine.{step}
use Rattle.automaton.specs.Labels.{Among}
use Rattle.automaton.proofs.Separation.{HasStates, Answers, after-within}
use Rattle.automaton.specs.PairQueue.{Queue, Search, pair_at}
use Rattle.automaton.proofs.PairQueue.{search_begun, turn_neither, turn-same, turn-new, turn-pair, search-right, search-few, search_alike, search-found, Added}
use Rattle.automaton.proofs.Pair.{difference-is}
use Rattle.definitions.specs.Book.{width, states, book_machine}
use Rattle.definitions.specs.Compare.{comparison}
use Rattle.definitions.specs.Checked.{BookPassed}
use Rattle.definitions.proofs.BookSteps.{step-inside, has-states}
use Rattle.book.specs.declared.layout.Book.{Book}
use Rattle.book.specs.Rows.{row_of}
use Rattle.search.specs.Trail.{placed, history_at}
use Rattle.search.proofs.Trails.{placed-length}
use Rattle.comparelabels.specs.LabelBytes.{label_at, itself, begun_labels, merged, OwnFrom}
use Rattle.comparelabels.specs.RowLabels.{RowPair, SameLabel}
use Rattle.comparelabels.specs.FirstFailing.{FirstFailing}
use Rattle.comparelabels.proofs.FirstFailing.{induction}
use Rattle.comparelabels.proofs.LabelBytes.{labels-merged, low_label, not_none, merged-own, begun_own, begun_merged}
use Rattle.comparepairs.specs.PairSearch.{BooksReady, PairSearch, left_at, right_at, queue_of, Both, Spotted}
use Rattle.comparepairs.proofs.RowSteps.{row-length, row_step}
use Rattle.comparepairs.proofs.QueueBytes.{pair_added}

-- ---- two books that pass the checks, of one width
pub record Books (b d : List ℕ) : Type 0 where
  pub first : BookPassed b
  pub second : BookPassed d
  pub same_width : width b ≡ width d

pub books_of : (first second : Book) → width first.bytes.now ≡ width second.bytes.now → Books first.bytes.now second.bytes.now
books_of first second same_width = record { first = first.passed; second = second.passed; same_width = same_width }

-- ---- the two machines. The number states b + 1 stands for no state, so that the first machine is taken as one with so many states.
module _ (b d : List ℕ) (B : Books b d) where
  of_first_law : HasStates (book_machine b) (states b + 1)
  of_first_law = record {
    start = record { least = omega arith; most = omega arith };
    steps = λ s c. omega (arith, step-inside b B.first s c);
  }

  of_second_law : HasStates (book_machine d) (states d)
  of_second_law = has-states d B.second

  -- what answers the comparison is the comparison
  comparison-is : (o : Maybe History) → Answers (book_machine b) (book_machine d) o → comparison b d ≡ o
  unfolding comparison
  comparison-is o r =
      difference-is (book_machine b) (book_machine d) (states b) (states d) (has-states b B.first) of_second_law B.same_width 128 16383
      (omega (arith, B.second.layout.header.states_most)) (omega (arith, B.first.layout.header.states_most, B.second.layout.header.states_most)) o r

-- ---- the beginning
module _ (b d queue label : List ℕ) (books : Books b d) (R : BooksReady b d queue label) where
  pub room_begun : states b + 2 < length label
  room_begun = omega (arith, R.room_label, books.second.layout.header.states_some)

  pub begun : (size : ℕ) → length label ≡ size → left_at size queue 0 ≡ 1 → right_at size queue 0 ≡ 1 → label ≡ begun_labels (states b + 1) size
      → PairSearch b d 1 0 0 queue label
  begun size long left right begun_label = record {
    ready = R;
    labels = rw begun_label (begun_own (states b + 1) size least room);
    search = rw (long, begun_label) (search_begun (book_machine b) (book_machine d) (states b + 1) (states d) (of_first_law b d books) (of_second_law b d books)
        (queue_of size queue) itself (label_at (begun_labels (states b + 1) size)) left right (λ u a. refl)
        (begun_merged (states b + 1) size least room (states b + 1 + states d) (omega (arith, R.room_label))));
  }
    where
      least : 1 < states b + 1
      least = omega (arith, books.first.layout.header.states_some)

      room : states b + 1 + 1 < size
      room = omega (arith, room_begun)

-- ---- the search has come to code c of pair i
module _ (b d : List ℕ) (m i c : ℕ) (queue label : List ℕ) (books : Books b d) (S : PairSearch b d m i c queue label) where
  pub few-pairs : m ≤ states b + states d
  few-pairs = omega (arith, search-few (book_machine b) (book_machine d) (states b + 1) (states d) m i c (queue_of (length label) queue) (label_at label) S.search)

  -- all codes are tried
  turned_pair : width b ≤ c → PairSearch b d m (i + 1) 0 queue label
  turned_pair l = record {
    ready = S.ready;
    labels = S.labels;
    search = rw (add-one i) (turn-pair (book_machine b) (book_machine d) (states b + 1) (states d) m i c (queue_of (length label) queue) (label_at label) S.search
        l (omega (arith, books.same_width)));
  }

  -- all pairs are
  pub all_alike : m ≤ i → Spotted b d queue None
  all_alike l = record {
    is = comparison-is b d books none
        (search_alike (book_machine b) (book_machine d) (states b + 1) (states d) m i c (queue_of (length label) queue) (label_at label) S.search l);
    writable = tt;
  }

  -- the states of a pair
  pub left_state : (k : ℕ) → k < m → Among (states b) (left_at (length label) queue k)
  unfolding pair_at
  left_state k l =
      let p = S.search.queue.pairs k l in
      record {
        least = p.left_state.least;
        most = omega (
          arith,
          p.left_after,
          after-within (book_machine b) (states b) (has-states b books.first) 1 books.first.layout.header.states_some
              (pair_at (queue_of (length label) queue) k).history,
        );
      }

  pub right_state : (k : ℕ) → k < m → Among (states d) (right_at (length label) queue k)
  right_state k l = search-right (book_machine b) (book_machine d) (states b + 1) (states d) m i c (queue_of (length label) queue) (label_at label) S.search k l

-- and the rows of that pair are at hand
pub record Trying (b d : List ℕ) (m i c : ℕ) (one other queue label : List ℕ) : Type 0 where
  pub books : Books b d
  pub search : PairSearch b d m i c queue label
  pub pair : i < m
  pub of_first : one ≡ row_of b (left_at (length label) queue i)
  pub of_second : other ≡ row_of d (right_at (length label) queue i)

module _ (b d : List ℕ) (m i c : ℕ) (one other queue label : List ℕ) (T : Trying b d m i c one other queue label) where
  abbrev S : PairSearch b d m i c queue label
  S = T.search

  abbrev q : Queue
  q = queue_of (length label) queue

  left : Among (states b) (left_at (length label) queue i)
  left = left_state b d m i c queue label T.books S i T.pair

  right : Among (states d) (right_at (length label) queue i)
  right = right_state b d m i c queue label T.books S i T.pair

  few : m ≤ states b + states d
  few = few-pairs b d m i c queue label T.books S

  pub width_one : length one ≡ width b
  width_one = ap length T.of_first ∙ row-length b T.books.first (left_at (length label) queue i) left.least left.most

  width_other : length other ≡ width b
  width_other = ap length T.of_second ∙ (row-length d T.books.second (right_at (length label) queue i) right.least right.most ∙ sym T.books.same_width)

  -- what code k leads to
  abbrev x : ℕ → ℕ
  x k = get_or one k 0

  abbrev y : ℕ → ℕ
  y k = get_or other k 0

  module _ (k : ℕ) (l : k < width b) where
    steps-left : step (book_machine b) (left_at (length label) queue i) k ≡ x k
    steps-left = row_step b T.books.first (left_at (length label) queue i) left.least left.most k l ∙ ap (λ (row : List ℕ). get_or row k 0) (sym T.of_first)

    steps-right : step (book_machine d) (right_at (length label) queue i) k ≡ y k
    steps-right =
        row_step d T.books.second (right_at (length label) queue i) right.least right.most k (omega (arith, T.books.same_width))
        ∙ ap (λ (row : List ℕ). get_or row k 0) (sym T.of_second)

    low-left : x k ≤ states b
    low-left = omega (arith, step-inside b T.books.first (left_at (length label) queue i) k, steps-left)

    low-right : y k ≤ states d
    low-right = omega (arith, step-inside d T.books.second (right_at (length label) queue i) k, steps-right)

  pub rows_read : RowPair one other (label_at label 0) label
  rows_read = rw S.labels.zero (record {
    width = width_other ∙ sym width_one;
    some = omega (arith, S.ready.room_label);
    first = λ k l. omega (arith, low-left k (omega (arith, width_one)), S.ready.room_label);
    second = λ k l. omega (arith, low-right k (omega (arith, width_one)), S.ready.room_label);
    none = let same : states b + 1 + 0 ≡ states b + 1 = omega arith in S.labels.zero ∙ (rw same (sym S.labels.next));
  })

  -- the next pair has room
  pub addable : Both one other c → (RowPair one other (label_at label 0) label × OwnFrom (label_at label 0) label)
      × (Both one other c × (c < 256) × (i < 256) × (m < length label))
  addable B = (
    (rows_read, rw S.labels.zero S.labels),
    (
      B,
      omega (arith, B.code, width_one, T.books.first.layout.header.width_most),
      omega (arith, T.pair, few, S.ready),
      omega (arith, few, S.ready),
    ),
  )

  -- code c leads to one label: it is possible in neither book, or in both
  alike_passed : c < width b → SameLabel one other (states b + 1) label c → Trying b d m i (suc c) one other queue label
  alike_passed k e = record {
    books = T.books;
    search = record { ready = S.ready; labels = S.labels; search = go (dec_lt 0 (x c)) (dec_lt 0 (y c)) };
    pair = T.pair;
    of_first = T.of_first;
    of_second = T.of_second;
  }
    where
      go : Dec (0 < x c) → Dec (0 < y c) → Search (book_machine b) (book_machine d) (states b + 1) (states d) m i (suc c) q (label_at label)
      go (yes p) (yes r) = turn-same (book_machine b) (book_machine d) (states b + 1) (states d) m i c q (label_at label) S.search (of_first_law b d T.books)
          (of_second_law b d T.books) T.pair (x c) (y c) (steps-left c k) (steps-right c k) p r e
      go (yes p) (no r) =
          let none : states b + 1 + y c ≡ states b + 1 = omega arith in
          absurd (omega (arith, low_label (states b + 1) label S.labels (x c) p (omega (arith, low-left c k)) (omega (arith, low-left c k, S.ready.room_label)), rw none at e, S.labels.next))
      go (no p) (yes r) =
          let none : x c ≡ 0 = omega arith in
          absurd (not_none (states b + 1) label S.labels (states b + 1 + y c) (omega arith) (omega (arith, low-right c k, S.ready.room_label)) (sym (rw none at e) ∙ S.labels.zero))
      go (no p) (no r) = turn_neither (book_machine b) (book_machine d) (states b + 1) (states d) m i c q (label_at label) S.search
          (steps-left c k ∙ omega arith) (steps-right c k ∙ omega arith)

  -- to two labels
  module _ (two : c < length one → SameLabel one other (label_at label 0) label c → ⊥) where
    -- the code is possible in just one book
    parted : c < width b → (Both one other c → ⊥) → ((1 ≤ x c) × (y c ≡ 0)) ⊎ ((x c ≡ 0) × (1 ≤ y c))
    parted k n = go (dec_lt 0 (x c)) (dec_lt 0 (y c))
      where
        code : c < length one
        code = omega (arith, width_one)

        go : Dec (0 < x c) → Dec (0 < y c) → ((1 ≤ x c) × (y c ≡ 0)) ⊎ ((x c ≡ 0) × (1 ≤ y c))
        go (yes p) (yes r) = absurd (n (record { code = code; first = p; second = r }))
        go (yes p) (no r) = inl (p, omega arith)
        go (no p) (yes r) = inr (omega arith, r)
        go (no p) (no r) =
            let left : x c ≡ 0 = omega arith in
            let right : y c ≡ 0 = omega arith in
            absurd (two code (rw (left, right) rows_read.none))

    -- the codes are tried
    pub tried : (r : Option ℕ) → r ≡ then_some (ltb c (length one)) c → c ≤ length one → (Both one other c → ⊥)
        → MatchOption r (PairSearch b d m (i + 1) 0 queue label) (λ code. Spotted b d queue (Some (record { place = i; code = code })))
    tried r er most n = rw er (go (dec_lt c (length one)))
      where
        go : Dec (c < length one) → MatchOption (then_some (ltb c (length one)) c) (PairSearch b d m (i + 1) 0 queue label)
            (λ code. Spotted b d queue (Some (record { place = i; code = code })))
        go (no l) = rw (le-ltb c (length one) (omega arith)) (turned_pair b d m i c queue label T.books S (omega (arith, width_one)))
        go (yes l) = rw (lt-ltb c (length one) l) (let k : c < width b = omega (arith, width_one) in record {
          is = comparison-is b d T.books (some (history_at queue i ++ (c ∷ [])))
              (search-found (book_machine b) (book_machine d) (states b + 1) (states d) m i c q (label_at label) S.search T.pair (x c) (y c) (steps-left c k) (steps-right c k) (parted k n));
          writable = record {
            falls = λ j h. S.search.queue.falls j (omega arith);
            few = omega (arith, few, T.books.first.layout.header.states_most, T.books.second.layout.header.states_most);
            room = omega (arith, few, S.ready.room_queue, S.ready.room_label);
            byte = omega (arith, T.books.first.layout.header.width_most);
          };
        })

    -- it leads to two states: their labels are merged, and the pair is queued
    module _ (B : Both one other c) where
      pub added : (size : ℕ) → length label ≡ size → (queue' label' : List ℕ) → queue' ≡ placed (placed queue m i c) (size + m) (x c) (y c)
          → label' ≡ merged label (x c) (label_at label 0 + y c)
          → Trying b d (m + 1) i (c + 1) one other queue' label'
      added size long queue' label' eq el = rw (eq, ← long, el, S.labels.zero) (record {
        books = T.books;
        search = record {
          ready = record {
            same_width = S.ready.same_width;
            room_queue = rw (placed-length, placed-length, length-map) S.ready.room_queue;
            room_label = rw length-map S.ready.room_label;
            bytes = rw length-map S.ready.bytes;
          };
          labels = merged-own (states b + 1) label S.labels (states b + 1 + y c) (omega (arith, B.second)) within (x c) B.first (omega (arith, low-left c code));
          search = rw (length-map, add-one m, add-one c) (turn-new (book_machine b) (book_machine d) (states b + 1) (states d) m i c q (label_at label) S.search
              (of_first_law b d T.books) (of_second_law b d T.books) T.pair (x c) (y c) (steps-left c code) (steps-right c code) B.first B.second
              (rw S.labels.zero at (two B.code)) (queue_of (length label) (placed (placed queue m i c) (length label + m) (x c) (y c)))
              (label_at (merged label (x c) (states b + 1 + y c))) queued
              (labels-merged (states b + 1 + states d) (x c) (states b + 1 + y c) label S.ready.room_label));
        };
        pair = omega (arith, T.pair);
        of_first = T.of_first ∙ rw length-map (ap (row_of b) (sym (queued.left.same i T.pair)));
        of_second = T.of_second ∙ rw length-map (ap (row_of d) (sym (queued.right.same i T.pair)));
      })
        where
          code : c < width b
          code = omega (arith, B.code, width_one)

          within : states b + 1 + y c < length label
          within = omega (arith, low-right c code, S.ready.room_label)

          queued : Added m i c (x c) (y c) q (queue_of (length label) (placed (placed queue m i c) (length label + m) (x c) (y c)))
          queued = pair_added (length label) queue S.ready.room_queue m i c (x c) (y c) (omega (arith, few, S.ready.room_label))

-- codes that lead to one label are passed over
pub passed_over : (b d : List ℕ) (m i c r : ℕ) (one other queue label : List ℕ) → Trying b d m i c one other queue label
    → FirstFailing (SameLabel one other (label_at label 0) label) c (length one) r → Trying b d m i r one other queue label
passed_over b d m i c r one other queue label T F =
    let none = T.search.labels.zero in
    let wide = width_one b d m i c one other queue label T in
    induction (λ k. Trying b d m i k one other queue label) c r F.least T
    (λ j h k T'. alike_passed b d m i j one other queue label T' (omega (arith, F.most, wide)) (rw none at (F.before j h k)))
