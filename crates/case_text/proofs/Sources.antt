-- The sources of the case so far, by the entries of the two maps.
use Rattle.case_text.proofs.ListLemmas.{option_map-option_map}
use Rattle.case_text.proofs.Words.{ALL_STREAMS, Given, HasFewSources, MOST_STREAMS, Side, Source, Stream, StreamData, Utility, UtilityData, bytes_eq, case_of}
use Rattle.case_text.proofs.Words.{count_by-map, count_on, count_on-add, first_source, is_some-lookup, is_taken, keys_of, length-map, list_any, list_any-append}
use Rattle.case_text.proofs.Words.{lookup, map-map, names_of, none_there, one_more_on, or_parts, position-map, same_side, side_of, slice_get-map, source_named}
use Rattle.case_text.proofs.Words.{stream_of, sum_by_push, utility_of}
use Rattle.std.proofs.Common.{List, None, Option, [], ap, arith, cond, count_by, false, is_some, length, map, option_map, pos, position, slice_get, sym}
use Rattle.std.proofs.Common.{unwrap_or, ℕ, ℤ, ◌++◌, ◌<◌, ◌||◌, ◌∙◌, ◌∷◌, ◌≡◌, ◌≤◌}
use Rattle.stream_case.specs.declared.source.Side.TheVariants as side
use Rattle.stream_case.specs.declared.source.Source.TheVariants as source

abbrev pub Streams : Type 0
Streams = List (List ℕ × StreamData)

abbrev pub Utilities : Type 0
Utilities = List (List ℕ × UtilityData)

-- ---- names

stream_names : (contribution : ℤ) (ss : Streams) → map (λ s. s.name) (map (stream_of contribution) ss) ≡ keys_of ss
stream_names contribution ss = map-map (λ (s : Stream). s.name) (stream_of contribution) ss

utility_names : (contribution : ℤ) (us : Utilities) → map (λ u. u.name) (map (utility_of contribution) us) ≡ keys_of us
utility_names contribution us = map-map (λ (u : Utility). u.name) (utility_of contribution) us

pub names_of-case : (given : Given) → names_of (case_of given) ≡ keys_of given.streams ++ keys_of given.utilities
names_of-case given = let contribution = unwrap_or given.contribution (pos 0) in
    λ i. stream_names contribution given.streams i ++ utility_names contribution given.utilities i

pub source_named-case : (given : Given) (name : List ℕ)
    → source_named (case_of given) name
    ≡ first_source (position (bytes_eq name) (keys_of given.streams)) (position (bytes_eq name) (keys_of given.utilities))
unfolding source_named
source_named-case given name =
    let contribution = unwrap_or given.contribution (pos 0) in
    let streams = position-map (bytes_eq name) (λ (s : Stream). s.name) (map (stream_of contribution) given.streams)
    ∙ ap (position (bytes_eq name)) (stream_names contribution given.streams) in
    let utilities = position-map (bytes_eq name) (λ (u : Utility). u.name) (map (utility_of contribution) given.utilities)
    ∙ ap (position (bytes_eq name)) (utility_names contribution given.utilities) in
    λ i. first_source (streams i) (utilities i)

pub is_taken-case : (given : Given) (name : List ℕ)
    → is_taken (case_of given) name
    ≡ (is_some (lookup (bytes_eq name) given.streams) || is_some (lookup (bytes_eq name) given.utilities))
unfolding is_taken
is_taken-case given name =
    let streams = sym (is_some-lookup (bytes_eq name) given.streams) in
    let utilities = sym (is_some-lookup (bytes_eq name) given.utilities) in
    ap (list_any (bytes_eq name)) (names_of-case given)
    ∙ list_any-append (bytes_eq name) (keys_of given.streams) (keys_of given.utilities)
    ∙ (λ i. streams i || utilities i)

-- a name that is not taken is that of no stream and of no utility
pub free_name : (given : Given) (name : List ℕ) → is_taken (case_of given) name ≡ false
    → (lookup (bytes_eq name) given.streams ≡ None) × (lookup (bytes_eq name) given.utilities ≡ None)
free_name given name free =
    let each = or_parts _ _ (sym (is_taken-case given name) ∙ free) in
    (none_there _ each.0, none_there _ each.1)

-- ---- sides

-- the side of a source, by the entry at its index
abbrev pub side_in : Given → Source → Option Side
side_in given (source.Stream i) = option_map (λ s. s.1.side) (slice_get given.streams i)
side_in given (source.Utility i) = option_map (λ u. u.1.side) (slice_get given.utilities i)

pub side_of-case : (given : Given) (s : Source) → side_of (case_of given) s ≡ side_in given s
side_of-case given (source.Stream i) =
    let make = stream_of (unwrap_or given.contribution (pos 0)) in
    ap (option_map (λ (s : Stream). s.side))
    (slice_get-map make given.streams i)
    ∙ option_map-option_map (λ (s : Stream). s.side) make (slice_get given.streams i)
side_of-case given (source.Utility i) =
    let make = utility_of (unwrap_or given.contribution (pos 0)) in
    ap (option_map (λ (u : Utility). u.side))
    (slice_get-map make given.utilities i)
    ∙ option_map-option_map (λ (u : Utility). u.side) make (slice_get given.utilities i)

-- ---- how many streams a side has

abbrev pub count_of : Side → Streams → ℕ
count_of of ss = count_by (λ s. same_side s.1.side of) ss

pub count_on-case : (of : Side) (contribution : ℤ) (ss : Streams)
    → count_on of (map (stream_of contribution) ss) ≡ count_of of ss
count_on-case of contribution ss = count_by-map (λ (s : Stream). same_side s.side of) (stream_of contribution) ss

pub few_streams : (ss : Streams) (us : Utilities) → HasFewSources ss us → length ss ≤ ALL_STREAMS
few_streams ss us few =
    let streams = map (stream_of (pos 0)) ss in
    omega (
      arith,
      count_on-case side.Hot (pos 0) ss,
      count_on-case side.Cold (pos 0) ss,
      count_on-add streams,
      length-map ss (stream_of (pos 0)),
      few.streams_on side.Hot,
      few.streams_on side.Cold,
    )

pub few_with_stream : (ss : Streams) (us : Utilities) (s : List ℕ × StreamData) → HasFewSources ss us
    → count_of s.1.side ss < MOST_STREAMS
    → HasFewSources (ss ++ s ∷ []) us
few_with_stream ss us s few room = record {
  streams_on = λ of. rw (sum_by_push (λ (t : List ℕ × StreamData). cond (same_side t.1.side of) 1 0) ss s)
      (one_more_on s.1.side (λ own. count_of own ss) MOST_STREAMS few.streams_on room of);
  few_utilities = few.few_utilities;
}
