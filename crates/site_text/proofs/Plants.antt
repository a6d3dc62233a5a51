-- The plants so far, with one plant or one stream more, and with a contribution.
use Rattle.site_text.proofs.Words.{All, All-cons, All-head, All-nil, All-tail, HaveFewStreams, IsName, MOST_SIDE_STREAMS, Plant, Side, Stream, append-nil, bytes_eq}
use Rattle.site_text.proofs.Words.{count_by-map, count_on, count_on-append, flat_map-append, is_among, length-map, list_any, list_any-append, map-append, map-map}
use Rattle.site_text.proofs.Words.{nat_tests, plant_with, same_side, set, streams_of, streams_of-more, sum_by_push, take-append-drop, stream_with, with_stream}
use Rattle.stream_case.proofs.CaseLemmas.{one_more_on}
use Rattle.std.proofs.Common.{List, [], ap, append_assoc, arith, cond, drop, get_or, length, length-append, map, not, refl, suc, sym, take, zero, ℕ, ℤ, ◌++◌}
use Rattle.std.proofs.Common.{◌+◌, ◌<◌, ◌==◌, ◌||◌, ◌∙◌, ◌∷◌, ◌≡◌, ◌≤◌}

-- ---- one stream more

pub streams_of-with_stream : (s : Stream) (plants : List Plant) → 0 < length plants
    → streams_of (with_stream s plants) ≡ streams_of plants ++ s ∷ []
streams_of-with_stream s [] some = absurd (omega (arith, some))
streams_of-with_stream s (plant ∷ []) some =
    append-nil (plant.streams ++ s ∷ []) ∙ ap (λ ss. ss ++ s ∷ []) (sym (append-nil plant.streams))
streams_of-with_stream s (plant ∷ next ∷ plants) some =
    ap (λ ss. plant.streams ++ ss) (streams_of-with_stream s (next ∷ plants) (omega arith))
    ∙ sym (append_assoc plant.streams (streams_of (next ∷ plants)) (s ∷ []))

pub names-with_stream : (s : Stream) (plants : List Plant)
    → map (λ p. p.name) (with_stream s plants) ≡ map (λ p. p.name) plants
names-with_stream s [] = refl
names-with_stream s (plant ∷ []) = refl
names-with_stream s (plant ∷ next ∷ plants) = ap (λ names. plant.name ∷ names) (names-with_stream s (next ∷ plants))

pub length-with_stream : (s : Stream) (plants : List Plant) → length (with_stream s plants) ≡ length plants
length-with_stream s plants =
    sym (length-map (with_stream s plants) (λ p. p.name)) ∙ ap length (names-with_stream s plants)
    ∙ length-map plants (λ p. p.name)

pub named-with_stream : (s : Stream) (plants : List Plant) → All (λ p. IsName p.name) plants
    → All (λ p. IsName p.name) (with_stream s plants)
named-with_stream s [] named = named
named-with_stream s (plant ∷ []) named =
    All-cons (λ (p : Plant). IsName p.name) (record { name = plant.name; streams = plant.streams ++ s ∷ [] }) []
    (All-head (λ (p : Plant). IsName p.name) plant [] named) (All-nil (λ (p : Plant). IsName p.name))
named-with_stream s (plant ∷ next ∷ plants) named =
    All-cons (λ (p : Plant). IsName p.name) plant (with_stream s (next ∷ plants)) (All-head (λ (p : Plant). IsName p.name) plant (next ∷ plants) named)
    (named-with_stream s (next ∷ plants) (All-tail (λ (p : Plant). IsName p.name) plant (next ∷ plants) named))

-- the last of some plants
pub with_stream-last : (s : Stream) (before : List Plant) (plant : Plant)
    → with_stream s (before ++ plant ∷ [])
    ≡ before ++ record { name = plant.name; streams = plant.streams ++ s ∷ [] } ∷ []
with_stream-last s [] plant = refl
with_stream-last s (p ∷ []) plant = refl
with_stream-last s (p ∷ q ∷ ps) plant = ap (λ plants. p ∷ plants) (with_stream-last s (q ∷ ps) plant)

-- ---- one plant more

pub streams_of-plant : (plants : List Plant) (plant : Plant)
    → streams_of (plants ++ plant ∷ []) ≡ streams_of plants ++ plant.streams
streams_of-plant plants plant =
    flat_map-append (λ (p : Plant). p.streams) plants (plant ∷ [])
    ∙ ap (λ ss. streams_of plants ++ ss) (append-nil plant.streams)

-- ---- a contribution

pub streams_of-plant_with : (c : ℤ) (plants : List Plant)
    → streams_of (map (plant_with c) plants) ≡ map (stream_with c) (streams_of plants)
streams_of-plant_with c [] = refl
streams_of-plant_with c (plant ∷ plants) =
    ap (λ ss. map (stream_with c) plant.streams ++ ss) (streams_of-plant_with c plants)
    ∙ sym (map-append (stream_with c) plant.streams (streams_of plants))

pub plant_names-with : (c : ℤ) (plants : List Plant)
    → map (λ p. p.name) (map (plant_with c) plants) ≡ map (λ p. p.name) plants
plant_names-with c plants = map-map (λ (p : Plant). p.name) (plant_with c) plants

pub stream_names-with : (c : ℤ) (streams : List Stream)
    → map (λ s. s.name) (map (stream_with c) streams) ≡ map (λ s. s.name) streams
stream_names-with c streams = map-map (λ (s : Stream). s.name) (stream_with c) streams

pub count_on-with : (of : Side) (c : ℤ) (streams : List Stream)
    → count_on of (map (stream_with c) streams) ≡ count_on of streams
count_on-with of c streams = count_by-map (λ (s : Stream). same_side s.side of) (stream_with c) streams

-- ---- names and streams of all plants

-- a name of a stream of some plant
pub is_among-plants : (name : List ℕ) (plants : List Plant)
    → list_any (λ p. is_among (λ s. s.name) p.streams name) plants ≡ is_among (λ s. s.name) (streams_of plants) name
unfolding is_among
is_among-plants name [] = refl
is_among-plants name (plant ∷ plants) = let named = λ (s : Stream). bytes_eq name s.name in
    ap (λ b. list_any named plant.streams || b) (is_among-plants name plants)
    ∙ sym (list_any-append named plant.streams (streams_of plants))

-- some plant has a stream
pub some_stream-plants : (plants : List Plant)
    → list_any (λ p. not (length p.streams == 0)) plants ≡ not (length (streams_of plants) == 0)
some_stream-plants [] = refl
some_stream-plants (plant ∷ plants) =
    let rest = some_stream-plants plants in
    let total = length-append plant.streams (streams_of plants) in
    grind (arith, nat_tests, rest, total)

-- ---- counts

-- a plant more
pub count_on-more : (of : Side) (plants : List Plant) (i : ℕ) (plant : Plant) → i < length plants
    → plant ≡ get_or plants i plant
    → count_on of (streams_of (take (i + 1) plants))
    ≡ count_on of (streams_of (take i plants)) + count_on of plant.streams
count_on-more of plants i plant within is = ap (count_on of) (streams_of-more plants i plant within is)
    ∙ count_on-append of (streams_of (take i plants)) plant.streams

-- the first plants have no more than all
pub count_on-take : (of : Side) (plants : List Plant) (n : ℕ)
    → count_on of (streams_of (take n plants)) ≤ count_on of (streams_of plants)
count_on-take of plants n =
    let whole = ap (λ ps. count_on of (streams_of ps)) (take-append-drop n plants) in
    let parts = ap (count_on of) (flat_map-append (λ (p : Plant). p.streams) (take n plants) (drop n plants))
    ∙ count_on-append of (streams_of (take n plants)) (streams_of (drop n plants)) in
    omega (arith, whole, parts)

-- one stream more on a side that has room
pub few_with_stream : (streams : List Stream) (s : Stream) → ((of : Side) → count_on of streams ≤ MOST_SIDE_STREAMS)
    → count_on s.side streams < MOST_SIDE_STREAMS → (of : Side) → count_on of (streams ++ s ∷ []) ≤ MOST_SIDE_STREAMS
few_with_stream streams s few room of =
    rw (sum_by_push (λ (t : Stream). cond (same_side t.side of) 1 0) streams s) (one_more_on s.side (λ own. count_on own streams) MOST_SIDE_STREAMS few room of)

-- the same of the plants that have it
pub few_with : (plants : List Plant) (s : Stream) → HaveFewStreams plants
    → count_on s.side (streams_of plants) < MOST_SIDE_STREAMS
    → HaveFewStreams (with_stream s plants)
few_with [] s few room of = few of
few_with (plant ∷ plants) s few room of =
    rw (streams_of-with_stream s (plant ∷ plants) (omega arith)) (few_with_stream (streams_of (plant ∷ plants)) s few room of)

-- a plant without streams more
pub few_plant : (plants : List Plant) (plant : Plant) → plant.streams ≡ [] → HaveFewStreams plants
    → HaveFewStreams (plants ++ plant ∷ [])
few_plant plants plant none few of = rw (streams_of-plant plants plant, none, append-nil) (few of)

-- ---- the last plant in place

-- with a stream more
pub set_last : (s : Stream) (plants : List Plant) (n : ℕ) (plant : Plant) → suc n ≡ length plants
    → plant ≡ get_or plants n plant
    → set plants n (record { name = plant.name; streams = plant.streams ++ s ∷ [] }) ≡ with_stream s plants
set_last s [] n plant last is = absurd (omega (arith, last))
set_last s (p ∷ []) zero plant last is = λ i. record { name = (is i).name; streams = (is i).streams ++ s ∷ [] } ∷ []
set_last s (p ∷ []) (suc n) plant last is = absurd (omega (arith, last))
set_last s (p ∷ q ∷ ps) zero plant last is = absurd (omega (arith, last))
set_last s (p ∷ q ∷ ps) (suc n) plant last is =
    ap (λ plants. p ∷ plants) (set_last s (q ∷ ps) n plant (omega (arith, last)) is)

-- as it was
pub set_same : (plants : List Plant) (n : ℕ) (plant : Plant) → plant ≡ get_or plants n plant
    → set plants n plant ≡ plants
set_same [] n plant is = refl
set_same (p ∷ ps) zero plant is = ap (λ q. q ∷ ps) is
set_same (p ∷ ps) (suc n) plant is = ap (λ qs. p ∷ qs) (set_same ps n plant is)

-- and there is none
pub with_stream-none : (s : Stream) (plants : List Plant) → (0 < length plants → ⊥) → with_stream s plants ≡ plants
with_stream-none s [] none = refl
with_stream-none s (p ∷ ps) none = absurd (none (omega arith))
