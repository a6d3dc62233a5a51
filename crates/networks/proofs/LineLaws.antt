-- What one line more declares, makes, uses and passes.
use Rattle.networks.proofs.Words.{All-head, Branch, Line, cons_option, filter_map-push, map-append, slice_get-front}
use Rattle.networks.proofs.Lists.{All-back, All-front, flat_map-push}
use Rattle.networks.specs.Lines.{exchanger_of, exchangers_of, made_by, makes, names_of, passage_of, passages_of, stream_at, used_by, uses}
use Rattle.std.proofs.Common.{All, List, None, Option, Some, [], ap, arith, filter_map, flat_map, length, option_map, option_to_list, refl, suc, unwrap_or, ℕ}
use Rattle.std.proofs.Common.{◌++◌, ◌<◌, ◌∷◌, ◌≡◌, ◌≤◌}
use Rattle.networks.specs.declared.network.Line.TheVariants as line

pub exchangers_of-push : (ls : List Line) (l : Line)
    → exchangers_of (ls ++ l ∷ []) ≡ exchangers_of ls ++ option_to_list (exchanger_of l)
unfolding exchangers_of
exchangers_of-push ls l = filter_map-push exchanger_of ls l

pub made_by-push : (ls : List Line) (l : Line) → made_by (ls ++ l ∷ []) ≡ made_by ls ++ makes l
unfolding made_by
made_by-push ls l = flat_map-push makes ls l

pub used_by-push : (ls : List Line) (l : Line) → used_by (ls ++ l ∷ []) ≡ used_by ls ++ uses l
unfolding used_by
used_by-push ls l = flat_map-push uses ls l

pub passages_of-push : (bs : List Branch) (ls : List Line) (l : Line)
    → passages_of bs (ls ++ l ∷ []) ≡ passages_of bs ls ++ option_to_list (passage_of bs l)
unfolding passages_of
passages_of-push bs ls l = filter_map-push (passage_of bs) ls l

length-option : {X : Type 0} (o : Option X) (xs : List X) → length (cons_option o xs) ≤ suc (length xs)
length-option None xs = omega arith
length-option (Some x) xs = omega arith

-- no more exchangers than lines
pub few_exchangers : (ls : List Line) → length (exchangers_of ls) ≤ length ls
unfolding exchangers_of
few_exchangers [] = omega arith
few_exchangers (l ∷ ls) = omega (arith, length-option (exchanger_of l) (filter_map exchanger_of ls), few_exchangers ls)

-- ---- more branches

-- a branch keeps its stream
pub stream_at-front : (bs more : List Branch) (k : ℕ) → k < length bs → stream_at (bs ++ more) k ≡ stream_at bs k
unfolding stream_at
stream_at-front bs more k within =
    ap (λ o. unwrap_or (option_map (λ (b : Branch). b.stream) o) 0) (slice_get-front bs more k within)

pub passage_of-front : (bs more : List Branch) (l : Line) → All (λ k. k < length bs) (uses l)
    → passage_of (bs ++ more) l ≡ passage_of bs l
passage_of-front bs more (line.Pass from exchanger to) made =
    ap (λ s. Some (record { exchanger = exchanger; stream = s }))
    (stream_at-front bs more from (All-head (λ k. k < length bs) from [] made))
passage_of-front bs more other made = refl

pub passages_of-front : (bs more : List Branch) (ls : List Line) → All (λ k. k < length bs) (used_by ls)
    → passages_of (bs ++ more) ls ≡ passages_of bs ls
unfolding passages_of used_by
passages_of-front bs more [] made = refl
passages_of-front bs more (l ∷ ls) made =
    let here = passage_of-front bs more l (All-front (λ k. k < length bs) (uses l) (flat_map uses ls) made) in
    let rest = passages_of-front bs more ls (All-back (λ k. k < length bs) (uses l) (flat_map uses ls) made) in
    λ i. cons_option (here i) (rest i)

pub names_of-append : (bs more : List Branch) → names_of (bs ++ more) ≡ names_of bs ++ names_of more
unfolding names_of
names_of-append bs more = map-append (λ (b : Branch). b.name) bs more
