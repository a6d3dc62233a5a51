-- The bands of a side, source by source: each is that of a stream or of a utility of the side, and each of these has
-- one.
use Rattle.vertical_design.proofs.Words.{All-append, All-cons, All-contains, All-flat_map, All-nil, AllPairs-append, AllPairs-cons, AllPairs-nil}
use Rattle.vertical_design.proofs.Words.{AreCuts, Band, Case, Option, Side, Stream, Utility, append-nil, cases_order, cons_option, count_by}
use Rattle.vertical_design.proofs.Words.{count_by-cons, ends_of, enumerate_from, eq-eqb, false_from_ne_true, filter_map, filter_map-enumerate_more}
use Rattle.vertical_design.proofs.Words.{get_or_from_slice_get, heat_at, high_end, int_sum_by, ints, kept_hold, low_end, ne_eqb, option_to_list}
use Rattle.vertical_design.proofs.Words.{own_side, same_Some, same_side, same_side-true, same_source, same_source-same, same_source-true}
use Rattle.vertical_design.proofs.Words.{bands_of, slice_get-append, slice_get_within, utility_from, utility_to}
use Rattle.std.proofs.Common.{All, AllPairs, Bool, List, None, Some, [], ap, append_assoc, ap₂, arith, false, get_or, if◌then◌else◌, inl, inr, length}
use Rattle.std.proofs.Common.{pos, refl, slice_get, suc, sym, take, true, zero, zero-add, ℕ, ℤ, ⊎_elim, ◌++◌, ◌+ℤ◌, ◌+◌, ◌<◌, ◌==◌, ◌∙◌, ◌∷◌, ◌≡◌}
use Rattle.std.proofs.Common.{◌≢◌, ◌⊎◌}
use Rattle.stream_case.specs.declared.source.Source.TheVariants as source

-- the band of a stream, and that of a utility, of a side
abbrev pub band_of : Side → List Stream → ℕ → Stream → Band
band_of of streams n s =
    record {
      source = source.Stream n;
      from = heat_at of streams (low_end s);
      to = heat_at of streams (high_end s);
      cp = s.cp;
    }

abbrev pub utility_band_of : Side → List Stream → ℕ → Band
utility_band_of of streams number =
    record { source = source.Utility number; from = utility_from of streams; to = utility_to of streams; cp = pos 1 }

pub record IsStreamBand (case : Case) (of : Side) (number : ℕ) (s : Stream) (a : Band) : Type 0 where
  pub here : slice_get case.streams number ≡ Some s
  pub side_is : s.side ≡ of
  pub is : a ≡ band_of of case.streams number s

pub record IsUtilityBand (case : Case) (of : Side) (number : ℕ) (u : Utility) (a : Band) : Type 0 where
  pub here : slice_get case.utilities number ≡ Some u
  pub side_is : u.side ≡ of
  pub is : a ≡ utility_band_of of case.streams number

abbrev pub IsSourceBand : Case → Side → Band → Type 0
IsSourceBand case of a =
    ((number : ℕ) × (s : Stream) × IsStreamBand case of number s a)
    ⊎ ((number : ℕ) × (u : Utility) × IsUtilityBand case of number u a)

-- different bands have different sources
abbrev pub Differ : Band → Band → Type 0
Differ a b = a.source ≢ b.source

-- a band among others
abbrev pub HasBand : List Band → Band → Type 0
HasBand bands a = (k : ℕ) × (slice_get bands k ≡ Some a)

-- what holds of both ends of each band holds of each cut
ends_hold : (P : ℤ → Type 0) (bands : List Band) → All (λ a. P a.from × P a.to) bands → All P (ends_of bands)
ends_hold P bands each = All-flat_map P (λ (a : Band). a.from ∷ a.to ∷ []) bands (λ k o within.
    let a = get_or bands k o in
    let both = each k o within in
    All-cons P a.from (a.to ∷ []) both.0 (All-cons P a.to [] both.1 (All-nil P)))

pub cuts_hold : (hot cold : List Band) (cuts : List ℤ) → AreCuts hot cold cuts → (P : ℤ → Type 0)
    → All (λ a. P a.from × P a.to) hot
    → All (λ a. P a.from × P a.to) cold → All P cuts
cuts_hold hot cold cuts are P hots colds k o within =
    let all = All-append P (ends_of hot) (ends_of cold) (ends_hold P hot hots) (ends_hold P cold colds) in
    All-contains P (ends_of hot ++ ends_of cold) (get_or cuts k o) all (are.each k o within)

-- ---- of numbered things each own one has a band

module _ {X : Type 0} (own : X → Bool) (item : ℕ → X → Band) where
  abbrev kept : ℕ × X → Option Band
  kept (n, x) = if own x then Some (item n x) else None

  abbrev pub kept_bands : ℕ → List X → List Band
  kept_bands n xs = filter_map kept (enumerate_from n xs)

  pub kept_each : (P : Band → Type 0) (n : ℕ) (xs : List X)
      → ((i : ℕ) (x : X) → slice_get xs i ≡ Some x → own x ≡ true → P (item (n + i) x))
      → All P (kept_bands n xs)
  kept_each = kept_hold own kept item (λ n x. refl)

  has_later : (o : Option Band) (rest : List Band) (a : Band) → HasBand rest a → HasBand (cons_option o rest) a
  has_later None rest a there = there
  has_later (Some b) rest a (k, is) = (suc k, is)

  pub kept_there : (n i : ℕ) (xs : List X) (x : X) → slice_get xs i ≡ Some x → own x ≡ true
      → HasBand (kept_bands n xs) (item (n + i) x)
  kept_there n i [] x at is_own = cc at
  kept_there n zero (y ∷ xs) x at is_own =
      let same : y ≡ x = cc at in
      let first : n + 0 ≡ n = omega arith in
      rw (same, is_own, first) (0, refl)
  kept_there n (suc i) (y ∷ xs) x at is_own =
      let next : n + suc i ≡ n + 1 + i = omega arith in
      let there = kept_there (n + 1) i xs x at is_own in
      let later = has_later (kept (n, y)) (kept_bands (n + 1) xs) (item (n + 1 + i) x) there in
      rw next later

  pub kept_differ : ((k m : ℕ) (x y : X) → k < m → Differ (item k x) (item m y)) → (n : ℕ) (xs : List X)
      → AllPairs Differ (kept_bands n xs)
  kept_differ differ n [] = AllPairs-nil Differ
  kept_differ differ n (x ∷ xs) = by (own x) (kept_differ differ (n + 1) xs)
    where
      by : (b : Bool) → AllPairs Differ (kept_bands (n + 1) xs)
          → AllPairs Differ (cons_option (if b then Some (item n x) else None) (kept_bands (n + 1) xs))
      by true rest =
          AllPairs-cons Differ (item n x) (kept_bands (n + 1) xs)
          (kept_each (Differ (item n x)) (n + 1) xs (λ i y at is_own. differ n (n + 1 + i) x y (omega arith))) rest
      by false rest = rest

  pub kept_sum : (f : Band → ℤ) (g : X → ℤ) → ((n : ℕ) (x : X) → f (item n x) ≡ g x) → (n : ℕ) (xs : List X)
      → int_sum_by f (kept_bands n xs) ≡ int_sum_by (λ x. if own x then g x else pos 0) xs
  kept_sum f g each n [] = refl
  kept_sum f g each n (x ∷ xs) = by (own x) (kept_sum f g each (n + 1) xs)
    where
      by : (b : Bool) → int_sum_by f (kept_bands (n + 1) xs) ≡ int_sum_by (λ y. if own y then g y else pos 0) xs
          → int_sum_by f (cons_option (if b then Some (item n x) else None) (kept_bands (n + 1) xs))
          ≡ (if b then g x else pos 0) +ℤ int_sum_by (λ y. if own y then g y else pos 0) xs
      by true rest = ap₂ ◌+ℤ◌ (each n x) rest
      by false rest = omega (arith, ints, rest)

  pub kept_count : (n : ℕ) (xs : List X) → length (kept_bands n xs) ≡ count_by own xs
  kept_count n [] = refl
  kept_count n (x ∷ xs) = rw (count_by-cons own x xs) (by (own x) (kept_count (n + 1) xs))
    where
      by : (b : Bool) → length (kept_bands (n + 1) xs) ≡ count_by own xs
          → length (cons_option (if b then Some (item n x) else None) (kept_bands (n + 1) xs))
          ≡ (if b then 1 else 0) + count_by own xs
      by true rest = omega (arith, rest)
      by false rest = omega (arith, rest)

-- ---- the bands of a case

module _ (case : Case) (of : Side) where
  abbrev pub own_stream : Stream → Bool
  own_stream s = same_side s.side of

  abbrev pub own_utility : Utility → Bool
  own_utility u = same_side u.side of

  abbrev pub stream_item : ℕ → Stream → Band
  stream_item n s = band_of of case.streams n s

  abbrev pub utility_item : ℕ → Utility → Band
  utility_item n u = utility_band_of of case.streams n

  abbrev pub stream_bands : List Band
  stream_bands = kept_bands own_stream stream_item 0 case.streams

  abbrev pub utility_bands : List Band
  utility_bands = kept_bands own_utility utility_item 0 case.utilities

  pub bands-parts : bands_of of case ≡ stream_bands ++ utility_bands
  unfolding bands_of
  bands-parts = refl

  -- each band has a source
  pub band_sources : All (IsSourceBand case of) (bands_of of case)
  band_sources =
      let of_streams = kept_each own_stream stream_item (IsSourceBand case of) 0 case.streams (λ i s at own.
      rw zero-add (inl (i, s, record { here = at; side_is = same_side-true s.side of own; is = refl }))) in
      let of_utilities = kept_each own_utility utility_item (IsSourceBand case of) 0 case.utilities (λ i u at own.
      rw zero-add (inr (i, u, record { here = at; side_is = same_side-true u.side of own; is = refl }))) in
      rw bands-parts (All-append (IsSourceBand case of) stream_bands utility_bands of_streams of_utilities)

  pub sources_differ : AllPairs Differ (bands_of of case)
  sources_differ =
      let streams_differ = kept_differ own_stream stream_item (λ k m x y less same.
      let is : k ≡ m = cc same in
      absurd (omega (arith, is, less))) 0 case.streams in
      let utilities_differ = kept_differ own_utility utility_item (λ k m x y less same.
      let is : k ≡ m = cc same in
      absurd (omega (arith, is, less))) 0 case.utilities in
      let kinds_differ = kept_each own_stream stream_item (λ a. All (Differ a) utility_bands) 0 case.streams
      (λ i s at own.
      kept_each own_utility utility_item (Differ (stream_item (0 + i) s)) 0 case.utilities
      (λ j u there of_side same. cc same)) in
      rw bands-parts (AllPairs-append Differ stream_bands utility_bands streams_differ utilities_differ kinds_differ)

  -- and each source has a band
  pub stream_place : (number : ℕ) (s : Stream) → slice_get case.streams number ≡ Some s → s.side ≡ of
      → HasBand (bands_of of case) (band_of of case.streams number s)
  stream_place number s here side_is =
      let own : same_side s.side of ≡ true = ap (λ d. same_side d of) side_is ∙ own_side of in
      let (k, there) = kept_there own_stream stream_item 0 number case.streams s here own in
      (k, rw bands-parts (slice_get-append stream_bands utility_bands k (stream_item number s) (rw zero-add at there)))

  pub utility_place : (number : ℕ) (u : Utility) → slice_get case.utilities number ≡ Some u → u.side ≡ of
      → HasBand (bands_of of case) (utility_band_of of case.streams number)
  utility_place number u here side_is =
      let own : same_side u.side of ≡ true = ap (λ d. same_side d of) side_is ∙ own_side of in
      let there = kept_there own_utility utility_item 0 number case.utilities u here own in
      rw bands-parts (behind stream_bands utility_bands (utility_item number u) (rw zero-add at there))
    where
      behind : (xs ys : List Band) (a : Band) → HasBand ys a → HasBand (xs ++ ys) a
      behind [] ys a there = there
      behind (x ∷ xs) ys a there = let (k, is) = behind xs ys a there in (suc k, is)

-- ---- the place of a source

-- it stands at one index
pub own_place : (bands : List Band) → AllPairs Differ bands → (k : ℕ) (a : Band) → slice_get bands k ≡ Some a
    → (i : ℕ) (b : Band) → slice_get bands i ≡ Some b → same_source b.source a.source ≡ (i == k)
own_place bands differ k a there i b here =
    ⊎_elim (λ same.
    let itself : b ≡ a = same_Some b a (sym here ∙ ap (slice_get bands) same ∙ there) in
    rw itself (same_source-same a.source ∙ sym (eq-eqb i k same)))
    (⊎_elim (λ less. unequal (omega (arith, less)) (apart i k b a here there less))
    (λ more. unequal (omega (arith, more)) (λ same. apart k i a b there here more (sym same)))) (cases_order i k)
  where
    apart : (m n : ℕ) (x y : Band) → slice_get bands m ≡ Some x → slice_get bands n ≡ Some y → m < n
        → x.source ≢ y.source
    apart m n x y one other less same =
        let first_is = get_or_from_slice_get bands m x x one in
        let second_is = get_or_from_slice_get bands n y x other in
        let source = λ (r : Band). r.source in
        differ m n x less (slice_get_within bands n y other) (ap source first_is ∙ same ∙ sym (ap source second_is))

    unequal : i ≢ k → b.source ≢ a.source → same_source b.source a.source ≡ (i == k)
    unequal other differs =
        false_from_ne_true (same_source b.source a.source) (λ holds. differs (same_source-true b.source a.source holds))
        ∙ sym (ne_eqb i k other)

module _ {X : Type 0} (h : ℕ × X → Option Band) (old : List Band) (xs : List X) (i : ℕ) (x : X)
    (within : i < length xs) (is : x ≡ get_or xs i x) where
  -- a source of the other side has none here
  pub band_skip : (now : List Band) → h (i, x) ≡ None → now ≡ old ++ filter_map h (enumerate_from 0 (take i xs))
      → now ≡ old ++ filter_map h (enumerate_from 0 (take (i + 1) xs))
  band_skip now none so_far =
      let front = filter_map h (enumerate_from 0 (take i xs)) in
      let skipped =
      filter_map-enumerate_more h xs i x within is ∙ ap (λ o. front ++ option_to_list o) none ∙ append-nil front in
      so_far ∙ ap (λ ss. old ++ ss) (sym skipped)

  pub band_more : (before now : List Band) (s : Band) → h (i, x) ≡ Some s
      → before ≡ old ++ filter_map h (enumerate_from 0 (take i xs)) → now ≡ before ++ s ∷ []
      → now ≡ old ++ filter_map h (enumerate_from 0 (take (i + 1) xs))
  band_more before now s some so_far pushed =
      let front = filter_map h (enumerate_from 0 (take i xs)) in
      let kept = filter_map-enumerate_more h xs i x within is ∙ ap (λ o. front ++ option_to_list o) some in
      pushed ∙ ap (λ ss. ss ++ s ∷ []) so_far ∙ append_assoc old front (s ∷ []) ∙ ap (λ ss. old ++ ss) (sym kept)
