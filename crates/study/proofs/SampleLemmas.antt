-- Samples: the states of the generator, the names of streams, that a sample is a valid case, and that it has one row.
use Rattle.study.proofs.Words.{All, All-append, All-filter, All-from_get_or, All-map, All-nil, All-weaker, AllPairs}
use Rattle.study.proofs.Words.{AllPairs-append, AllPairs-filter, AllPairs-map, Cold, FORBID_CHANCE, Forbid}
use Rattle.study.proofs.Words.{HIGHEST_TEMPERATURE, HasValidStreams, Hot, IsComplete, IsInRange, IsName, IsRightlyNamed}
use Rattle.study.proofs.Words.{IsTemperature, IsTrue, IsUnreserved, IsValid, IsValidForbid, IsValidStream}
use Rattle.study.proofs.Words.{MOST_SAMPLE_STREAMS, OneSampleRow, SampleRow, Side, Stream, append-nil, append_assoc}
use Rattle.study.proofs.Words.{codes, completed_sample, count_by, count_by-le-length, count_by-map, count_on, decimal}
use Rattle.study.proofs.Words.{draw, drawn_high, drawn_low, drawn_stream, drawn_streams, filter, filter-append}
use Rattle.study.proofs.Words.{get_or-append-add, ints, is_ascii_alphanumeric, is_in_range, is_name_byte}
use Rattle.study.proofs.Words.{least_temperature, length-append, length-filter, length-map, map-append, nat_tests}
use Rattle.study.proofs.Words.{next_state, numerals_by_value, option_map, pair_of, pos, range_with_len}
use Rattle.study.proofs.Words.{range_with_len-append, same_side, sample, side_of, slice_get, slice_get-append}
use Rattle.study.proofs.Words.{slice_get-get_or, state_after, stream_name, sum_by-append, tells_by_index, ◌==◌}
use Rattle.std.proofs.Common.{Bool, List, Some, [], ap, arith, cond, false, get_or, inl, length, map, refl, subst, suc}
use Rattle.std.proofs.Common.{sym, true, zero, ℕ, ◌%◌, ◌*◌, ◌++◌, ◌+◌, ◌<◌, ◌^◌, ◌∙◌, ◌∷◌, ◌≡◌, ◌≢◌, ◌≤◌}
use Rattle.std.proofs.lemmas.Fmt.{decimal_injective, decimal_nonempty, digits_decimal, length-decimal-le}
use Rattle.std.proofs.lemmas.List.FromFn.{get_or-map-range_with_len, get_or-range_with_len, length-map-range_with_len}
use Rattle.std.proofs.lemmas.List.FromFn.{length-range_with_len, map-range_with_len_more}
use Rattle.std.specs.Prelude.{unsigned_abs}
use Rattle.study.proofs.NoCut.{IsSupplied, JoinsStreams}
use Rattle.study.proofs.LeastCosts.{one_cost}
use Rattle.stream_case.specs.declared.source.Source.TheVariants.{Stream as of_stream}
use Rattle.study.specs.declared.limits.TheConstants.{FLOW_RATES, LEAST_HOT_TEMPERATURE, TEMPERATURES}

-- some draws, and then further ones
pub state_after-add : (x m n : ℕ) → state_after (state_after x m) n ≡ state_after x (m + n)
state_after-add x m zero = let e : m ≡ m + 0 = omega arith in ap (state_after x) e
state_after-add x m (suc n) =
    let e : m + suc n ≡ suc (m + n) = omega arith in
    rw e (ap next_state (state_after-add x m n))

-- The numbers from 0 on.

-- each is below their count
pub each_below : (n : ℕ) → All (λ i. i < n) (range_with_len 0 n)
each_below n k d within =
    let long = length-range_with_len 0 n in
    let here = get_or-range_with_len 0 n k d (omega arith) in
    omega (arith, here)

pub rising : (n : ℕ) → AllPairs (λ i j. i < j) (range_with_len 0 n)
rising n i j d before within =
    let long = length-range_with_len 0 n in
    let first = get_or-range_with_len 0 n i d (omega arith) in
    let second = get_or-range_with_len 0 n j d (omega arith) in omega (arith, first, second)

-- one more
pub one_more : (n : ℕ) → range_with_len 0 (n + 1) ≡ range_with_len 0 n ++ n ∷ []
one_more n =
    let first : 0 + n ≡ n = omega arith in
    sym (range_with_len-append 0 n 1) ∙ ap (λ k. range_with_len 0 n ++ k ∷ []) first

-- The names of the streams of a sample.

-- digits are bytes of names
in_range : (b : ℕ) → IsInRange 48 57 b → is_in_range 48 57 b ≡ true
in_range b h = grind (arith, nat_tests)

IsNameByte-digit : (b : ℕ) → IsInRange 48 57 b → IsTrue (is_name_byte b)
IsNameByte-digit b h = rw (in_range b h) refl

digits : (n : ℕ) → n < 2 ^ 64 → (i : ℕ) → i < length (decimal n) → IsInRange 48 57 (get_or (decimal n) i 0)
digits n small = digits_decimal (numerals_by_value _ tells_by_index) n small

-- a letter and a short number
lettered : (letter n : ℕ) → IsTrue (is_ascii_alphanumeric letter) → n < 100 → IsName (letter ∷ decimal n)
lettered letter n is small =
    let fits : n < 2 ^ 64 = omega arith in
    let short = length-decimal-le 2 n (omega arith) (omega arith) fits in (
      is,
      All-from_get_or (λ x. IsTrue (is_name_byte x)) (decimal n) 0 (λ i within. IsNameByte-digit (get_or (decimal n) i 0) (digits n fits i within)),
      omega arith,
    )

pub IsName-stream_name : (side : Side) (n : ℕ) → n < 100 → IsName (stream_name side n)
IsName-stream_name Hot n small = lettered 72 n refl small
IsName-stream_name Cold n small = lettered 67 n refl small

-- the second byte is a digit, so the name is not that of a utility
second_byte : (n : ℕ) → n < 100 → get_or (decimal n) 0 0 < 58
second_byte n small =
    let fits : n < 2 ^ 64 = omega arith in
    let first = digits n fits 0 (decimal_nonempty n fits) in
    omega arith

unlike : (letter other n : ℕ) (rest : List ℕ) → n < 100 → 58 ≤ get_or rest 0 0 → letter ∷ decimal n ≢ other ∷ rest
unlike letter other n rest small high same =
    let digit = second_byte n small in
    let equal : get_or (decimal n) 0 0 ≡ get_or rest 0 0 = ap (λ bytes. get_or bytes 1 0) same in
    omega arith

pub IsUnreserved-stream_name : (side : Side) (n : ℕ) → n < 100 → IsUnreserved (stream_name side n)
IsUnreserved-stream_name Hot n small =
    (unlike 72 72 n (codes "OT") small (omega arith), unlike 72 67 n (codes "OLD") small (omega arith))
IsUnreserved-stream_name Cold n small =
    (unlike 67 72 n (codes "OT") small (omega arith), unlike 67 67 n (codes "OLD") small (omega arith))

-- different numbers make different names
tails_differ : (letter m n : ℕ) → m < n → n < 100 → letter ∷ decimal m ≢ letter ∷ decimal n
tails_differ letter m n before small same =
    let equal : decimal m ≡ decimal n = cc in
    let numbers = decimal_injective m n (omega arith) (omega arith) equal in
    omega arith

pub stream_names-differ : (side : Side) (m n : ℕ) → m < n → n < 100 → stream_name side m ≢ stream_name side n
stream_names-differ Hot = tails_differ 72
stream_names-differ Cold = tails_differ 67

pub sides-differ : (m n : ℕ) → stream_name Hot m ≢ stream_name Cold n
sides-differ m n same =
    let heads : ◌≡◌ {A = ℕ} 72 67 = ap (λ bytes. get_or bytes 0 0) same in
    omega (arith, heads)

-- A sample is a valid case.

-- ---- a stream

low_upto : (side : Side) (s : ℕ) → least_temperature side + s % TEMPERATURES < LEAST_HOT_TEMPERATURE + TEMPERATURES
low_upto Hot s = omega arith
low_upto Cold s = omega arith

drawn_upto : (s : ℕ) → s % TEMPERATURES < TEMPERATURES
drawn_upto s = omega arith

IsTemperature-below : (t : ℕ) → t ≤ unsigned_abs HIGHEST_TEMPERATURE → IsTemperature (pos t)
IsTemperature-below t small = omega (arith, ints)

module _ (side : Side) (x : ℕ) where
  IsTemperature-low : IsTemperature (pos (drawn_low side x))
  IsTemperature-low =
      IsTemperature-below (drawn_low side x) (let low = low_upto side (state_after x 1) in omega (arith, low))

  IsTemperature-high : IsTemperature (pos (drawn_high side x))
  IsTemperature-high =
      IsTemperature-below (drawn_high side x) (let low = low_upto side (state_after x 1) in let more = drawn_upto (state_after x 2) in omega (arith, low, more))

below : (low more : ℕ) → low < low + 1 + more
below low more = omega arith

flow_rate_upto : (s : ℕ) → 1 + s % FLOW_RATES ≤ FLOW_RATES
flow_rate_upto s = omega arith

IsValidStream-drawn : (side : Side) (x number : ℕ) → number < 100 → IsValidStream (drawn_stream side x number)
IsValidStream-drawn Hot x number small = record {
  name = IsName-stream_name Hot number small;
  supply = IsTemperature-high Hot x;
  target = IsTemperature-low Hot x;
  heat = inl (record {
    way = let less = below (drawn_low Hot x) (draw x 1 TEMPERATURES) in omega (arith, ints, less);
    cp =
        let most = flow_rate_upto (state_after x 3) in
        record { from = omega (arith, ints); upto = omega (arith, ints, most) };
    load = refl;
  });
  contribution = omega (arith, ints);
}
IsValidStream-drawn Cold x number small = record {
  name = IsName-stream_name Cold number small;
  supply = IsTemperature-low Cold x;
  target = IsTemperature-high Cold x;
  heat = inl (record {
    way = let less = below (drawn_low Cold x) (draw x 1 TEMPERATURES) in omega (arith, ints, less);
    cp =
        let most = flow_rate_upto (state_after x 3) in
        record { from = omega (arith, ints); upto = omega (arith, ints, most) };
    load = refl;
  });
  contribution = omega (arith, ints);
}

name-drawn : (side : Side) (x number : ℕ) → (drawn_stream side x number).name ≡ stream_name side number
name-drawn Hot x number = refl
name-drawn Cold x number = refl

-- ---- the streams of a side

module _ (side : Side) (x count : ℕ) (small : count ≤ MOST_SAMPLE_STREAMS) where
  abbrev made : ℕ → Stream
  made i = drawn_stream side (state_after x (3 * i)) (i + 1)

  -- what holds of each stream that is drawn
  All-drawn : (P : Stream → Type 0) → ((y number : ℕ) → number < 100 → P (drawn_stream side y number))
      → All P (drawn_streams side x count)
  All-drawn P each = All-map P made (range_with_len 0 count)
      (All-weaker (λ i. i < count) (λ i. P (made i)) (λ i less. each (state_after x (3 * i)) (i + 1) (omega arith)) (range_with_len 0 count) (each_below count))

  length-drawn : length (drawn_streams side x count) ≡ count
  length-drawn = length-map-range_with_len made 0 count

  stream_at : (i : ℕ) → i < count → slice_get (drawn_streams side x count) i ≡ Some (made i)
  stream_at i within = slice_get-get_or (drawn_streams side x count) i (made 0) (let long = length-drawn in omega arith)
      ∙ ap Some (get_or-map-range_with_len made 0 count i i (made 0) within (omega arith))

  names_differ : AllPairs (λ s t. s.name ≢ t.name) (drawn_streams side x count)
  names_differ = AllPairs-map (λ s t. s.name ≢ t.name) made (range_with_len 0 count) (λ i j d before within.
      let order = rising count i j d before within in
      let long = length-range_with_len 0 count in
      let second : get_or (range_with_len 0 count) j d < count = each_below count j d within in
      apart (get_or (range_with_len 0 count) i d) (get_or (range_with_len 0 count) j d) order second)
    where
      apart : (i j : ℕ) → i < j → j < count → (made i).name ≢ (made j).name
      apart i j order less same = stream_names-differ side (i + 1) (j + 1) (omega arith) (omega arith)
          (sym (name-drawn side (state_after x (3 * i)) (i + 1)) ∙ same ∙ name-drawn side (state_after x (3 * j)) (j + 1))

-- one more
drawn_streams-more : (side : Side) (x count : ℕ)
    → drawn_streams side x (count + 1)
    ≡ drawn_streams side x count ++ drawn_stream side (state_after x (3 * count)) (count + 1) ∷ []
drawn_streams-more side x count =
    map-range_with_len_more (λ i. drawn_stream side (state_after x (3 * i)) (i + 1)) 0 count count (omega arith)

-- one stream is appended
pub streams_push : (side : Side) (x i : ℕ) (before old new : List Stream) (s : Stream)
    → old ≡ before ++ drawn_streams side x i
    → s ≡ drawn_stream side (state_after x (3 * i)) (i + 1) → new ≡ old ++ s ∷ []
    → new ≡ before ++ drawn_streams side x (i + 1)
streams_push side x i before old new s so_far is pushed =
    pushed ∙ ap (λ ys. ys ++ s ∷ []) so_far ∙ append_assoc before (drawn_streams side x i) (s ∷ [])
    ∙ ap (λ ys. before ++ ys) (ap (λ t. drawn_streams side x i ++ t ∷ []) is ∙ sym (drawn_streams-more side x i))

-- ---- how many

none_on : (f : ℕ → Stream) (of : Side) → ((i : ℕ) → same_side (f i).side of ≡ false) → (is : List ℕ)
    → count_on of (map f is) ≡ 0
none_on f of other is = count_by-map (λ s. same_side s.side of) f is ∙ none_by (λ i. same_side (f i).side of) other is
  where
    none_by : (p : ℕ → Bool) → ((i : ℕ) → p i ≡ false) → (is : List ℕ) → count_by p is ≡ 0
    none_by p never [] = refl
    none_by p never (i ∷ is) = sum_by-append (λ k. cond (p k) 1 0) (i ∷ []) is
        ∙ (let rest = none_by p never is in let first = never i in omega (arith, rest, ap {B = ℕ} (λ b. cond b 1 0) first))

few_on : (of : Side) (x y count : ℕ) → count ≤ MOST_SAMPLE_STREAMS
    → count_on of (drawn_streams Hot x count ++ drawn_streams Cold y count) ≤ count
few_on Hot x y count small =
    let both =
    sum_by-append (λ (s : Stream). cond (same_side s.side Hot) 1 0) (drawn_streams Hot x count) (drawn_streams Cold y count) in
    let hot = count_by-le-length (λ (s : Stream). same_side s.side Hot) (drawn_streams Hot x count) in
    let cold = none_on (made Cold y count small) Hot (λ i. refl) (range_with_len 0 count) in
    omega (arith, both, hot, cold, length-drawn Hot x count small)
few_on Cold x y count small =
    let both =
    sum_by-append (λ (s : Stream). cond (same_side s.side Cold) 1 0) (drawn_streams Hot x count) (drawn_streams Cold y count) in
    let hot = none_on (made Hot x count small) Cold (λ i. refl) (range_with_len 0 count) in
    let cold = count_by-le-length (λ (s : Stream). same_side s.side Cold) (drawn_streams Cold y count) in
    omega (arith, both, hot, cold, length-drawn Cold y count small)

-- ---- the pairs so far, where p tells which are forbidden

module _ (p : ℕ → Bool) (count n : ℕ) where
  chosen_more : filter p (range_with_len 0 (n + 1)) ≡ filter p (range_with_len 0 n) ++ cond (p n) (n ∷ []) []
  chosen_more = ap (filter p) (one_more n) ∙ filter-append p (range_with_len 0 n) (n ∷ [])

  pub pairs-more : p n ≡ true
      → map (pair_of count) (filter p (range_with_len 0 (n + 1))) ≡ map (pair_of count) (filter p (range_with_len 0 n))
      ++ pair_of count n ∷ []
  pairs-more holds =
      ap (map (pair_of count)) (chosen_more ∙ ap (λ b. filter p (range_with_len 0 n) ++ cond b (n ∷ []) []) holds)
      ∙ map-append (pair_of count) (filter p (range_with_len 0 n)) (n ∷ [])

  pub pairs-pass : p n ≡ false
      → map (pair_of count) (filter p (range_with_len 0 (n + 1))) ≡ map (pair_of count) (filter p (range_with_len 0 n))
  pairs-pass fails =
      ap (map (pair_of count)) (chosen_more ∙ ap (λ b. filter p (range_with_len 0 n) ++ cond b (n ∷ []) []) fails ∙ append-nil (filter p (range_with_len 0 n)))

-- ---- the case

module _ (number count : ℕ) (some : 1 ≤ count) (small : count ≤ MOST_SAMPLE_STREAMS) where
  abbrev hots : List Stream
  hots = drawn_streams Hot number count

  abbrev colds : List Stream
  colds = drawn_streams Cold (state_after number (3 * count)) count

  All-streams : (P : Stream → Type 0) → ((side : Side) (y n : ℕ) → n < 100 → P (drawn_stream side y n))
      → All P (hots ++ colds)
  All-streams P each =
      All-append P hots colds (All-drawn Hot number count small P (each Hot)) (All-drawn Cold (state_after number (3 * count)) count small P (each Cold))

  HasValidStreams-sample : HasValidStreams (hots ++ colds)
  HasValidStreams-sample = record {
    some = omega (arith, length-append hots colds, length-drawn Hot number count small);
    are_streams = record {
      each = All-streams IsValidStream IsValidStream-drawn;
      few = λ side. let few = few_on side number (state_after number (3 * count)) count small in
          omega (arith, few);
    };
  }

  names_differ-streams : AllPairs (λ (s t : Stream). s.name ≢ t.name) (hots ++ colds)
  names_differ-streams =
      AllPairs-append (λ (s t : Stream). s.name ≢ t.name) hots colds (names_differ Hot number count small)
      (names_differ Cold (state_after number (3 * count)) count small) (All-drawn Hot number count small (λ s. All (λ t. s.name ≢ t.name) colds)
      (λ x m _. All-drawn Cold (state_after number (3 * count)) count small (λ t. stream_name Hot m ≢ t.name) (λ y n _. sides-differ m n)))

  names-distinct : AllPairs (λ a b. a ≢ b) (map (λ (s : Stream). s.name) (hots ++ colds) ++ [])
  names-distinct = subst (AllPairs (λ a b. a ≢ b)) (sym (append-nil (map (λ (s : Stream). s.name) (hots ++ colds))))
      (AllPairs-map (λ a b. a ≢ b) (λ (s : Stream). s.name) (hots ++ colds) names_differ-streams)

  hot_side : (i : ℕ) → i < count → side_of (sample number count) (of_stream i) ≡ Some Hot
  hot_side i within =
      ap (option_map (λ (s : Stream). s.side)) (slice_get-append hots colds i _ (stream_at Hot number count small i within))

  cold_at : (i : ℕ) → i < count
      → slice_get (hots ++ colds) (count + i) ≡ Some (made Cold (state_after number (3 * count)) count small i)
  cold_at i within =
      let d = made Cold (state_after number (3 * count)) count small 0 in
      let long = length-append hots colds in
      let first = length-drawn Hot number count small in
      let second = length-drawn Cold (state_after number (3 * count)) count small in
      let place : count + i ≡ length hots + i = omega arith in
      rw place (slice_get-get_or (hots ++ colds) (length hots + i) d (omega arith) ∙ ap Some
      (get_or-append-add hots colds i d ∙ get_or-map-range_with_len (made Cold (state_after number (3 * count)) count small) 0 count i i d within
      (omega arith)))

  cold_side : (i : ℕ) → i < count → side_of (sample number count) (of_stream (count + i)) ≡ Some Cold
  cold_side i within = ap (option_map (λ (s : Stream). s.side)) (cold_at i within)

  abbrev chosen : List ℕ
  chosen = filter (λ i. draw (state_after number (6 * count)) i FORBID_CHANCE == 0) (range_with_len 0 count)

  IsValidForbid-pairs : All (IsValidForbid (sample number count)) (map (pair_of count) chosen)
  IsValidForbid-pairs = All-map (IsValidForbid (sample number count)) (pair_of count) chosen
      (All-weaker (λ i. i < count) (λ i. IsValidForbid (sample number count) (pair_of count i)) (λ i within. (hot_side i within, cold_side i within)) chosen
      (All-filter (λ i. draw (state_after number (6 * count)) i FORBID_CHANCE == 0) (λ i. i < count) (range_with_len 0 count) (each_below count)))

  few-pairs : length (map (pair_of count) chosen) ≤ count
  few-pairs =
      let p = λ (i : ℕ). draw (state_after number (6 * count)) i FORBID_CHANCE == 0 in
      let kept = length-filter p (range_with_len 0 count) in
      let most = count_by-le-length p (range_with_len 0 count) in
      omega (arith, length-map chosen (pair_of count), kept, most, length-range_with_len 0 count)

  pairs-distinct : AllPairs (λ (f g : Forbid). f ≢ g) (map (pair_of count) chosen)
  pairs-distinct = AllPairs-map (λ (f g : Forbid). f ≢ g) (pair_of count) chosen (λ i j d before within.
      apart (get_or chosen i d) (get_or chosen j d)
      (AllPairs-filter (λ a b. a < b) (λ k. draw (state_after number (6 * count)) k FORBID_CHANCE == 0) (range_with_len 0 count)
      (rising count) i j d before within))
    where
      apart : (i j : ℕ) → i < j → pair_of count i ≢ pair_of count j
      apart i j less same =
          let hots : of_stream i ≡ of_stream j = ap (λ (f : Forbid). f.hot) same in
          let equal : i ≡ j = cc in
          omega arith

  pub IsValid-sample : IsValid (sample number count)
  IsValid-sample = record {
    contribution = omega (arith, ints);
    streams = HasValidStreams-sample;
    utilities = All-nil _;
    few_utilities = omega arith;
    distinct_names = names-distinct;
    stream_names =
        All-streams (λ s. IsUnreserved s.name) (λ side y n less. subst IsUnreserved (sym (name-drawn side y n)) (IsUnreserved-stream_name side n less));
    utility_names = All-nil IsRightlyNamed;
    forbids = IsValidForbid-pairs;
    few_forbids = omega (arith, few-pairs);
    distinct_forbids = pairs-distinct;
  }

-- A completed sample has a heat flow, and a sample has one row.

-- it gives no utility, and forbids matches of streams alone
pub IsSupplied-sample : (number count : ℕ) → IsSupplied (completed_sample number count)
IsSupplied-sample number count = record {
  utilities = inl refl;
  joins_streams =
      All-map JoinsStreams (pair_of count) (filter (λ i. draw (state_after number (6 * count)) i FORBID_CHANCE == 0) (range_with_len 0 count))
      (λ k d within. (refl, refl));
}

pub IsComplete-sample : (number count : ℕ) → 1 ≤ count → count ≤ MOST_SAMPLE_STREAMS
    → IsComplete (completed_sample number count)
IsComplete-sample number count some few = (sample number count, IsValid-sample number count some few, refl)

same_row : (row other : SampleRow) → row.hot ≡ other.hot → row.cold ≡ other.cold → row.cost ≡ other.cost → row ≡ other
same_row row other a b c = λ i. record { hot = a i; cold = b i; cost = c i }

pub one_sample_row : OneSampleRow
one_sample_row number count row other one two = same_row row other (one.hot ∙ sym two.hot) (one.cold ∙ sym two.cold)
    (one_cost (completed_sample number count) (λ ps. ps) row.cost other.cost one.cost two.cost)
