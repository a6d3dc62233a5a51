-- Each printed row follows on the rows before it.
use Rattle.case_text.proofs.Sources.{count_of, count_on-case, names_of-case}
use Rattle.case_text.proofs.Tests.{Decides-is_forbidden, Decides-is_reserved_from, Decides-is_taken, is_source-named}
use Rattle.case_text.specs.Checks.{checks, forbid_checks, heat_checks, kind_checks, stream_checks, stream_number_checks, utility_checks}
use Rattle.case_text.specs.Checks.{utility_number_checks}
use Rattle.case_text.proofs.Words.{Case, Decides-and, Decides-int_eq, Decides-int_le, Decides-is_own_contribution, Decides-is_right_way, Decides-not, Follows}
use Rattle.case_text.proofs.Words.{Forbid, Given, IsContribution, IsHeat, IsLatent, IsName, IsPrintable, IsRightWay, IsRightlyNamed, IsSensible, IsUnreserved}
use Rattle.case_text.proofs.Words.{IsValidStream, IsValidUtility, MOST_FORBIDS, MOST_STREAMS, MOST_UTILITIES, Passes, Row, Side, Source, Stream, StreamData}
use Rattle.case_text.proofs.Words.{Utility, UtilityData, are_empty, case_of, contribution, contribution_field, count_on, field, forbid_row}
use Rattle.case_text.proofs.Words.{grammar, heat, int_eq, ints, is_flow_rate_beside, is_number, is_number_or_empty, is_own_contribution, is_own_load}
use Rattle.case_text.proofs.Words.{is_passed_over, keys_of, kind_of, load, load_field, name-passes, none_fails, number, number_read, optional_number}
use Rattle.case_text.proofs.Words.{optional_read, own_contribution, own_load, price, room-passes, side_of, source_name, source_named, stream_flow_rate}
use Rattle.case_text.proofs.Words.{stream_row, temperature, utility_kind, utility_row, with_entry, within-passes}
use Rattle.case_text.proofs.Words.{Decides-neither, codes, is_reserved, kind_in, stream_row-kind}
use Rattle.std.proofs.Common.{All, Bool, IfSome, List, None, Option, Some, arith, false, if◌then◌else◌, inl, inr, length, not, pos, refl, true, unwrap_or, ℕ, ℤ}
use Rattle.std.proofs.Common.{◌++◌, ◌<◌, ◌∷◌, ◌≡◌, ◌≢◌, ◌⊎◌}
use Rattle.case_text.specs.declared.entry.Entry.TheVariants as entry
use Rattle.case_text.specs.declared.kind.Kind.TheVariants as kind
use Rattle.stream_case.specs.declared.source.Side.TheVariants as side

-- ---- contributions of sources

pub own : (P : ℤ → Type 0) (k : Case) (c : ℤ) → P c → IfSome (own_contribution k c) P
own P k c holds =
    elim (int_eq c k.contribution) as (λ b. IfSome (if b then None else Some c) P) [ true ↦ tt | false ↦ holds ]

-- a row in whose seventh field a contribution is printed
record ReadsOwn (k : Case) (c : ℤ) (row : Row) : Type 0 where
  is_number : is_number_or_empty row 6 ≡ true
  read : optional_number row 6 ≡ own_contribution k c
  range : is_own_contribution (own_contribution k c) ≡ true

reads_own : (k : Case) (c : ℤ) (row : Row) → IsContribution c → field row 6 ≡ contribution_field k c → ReadsOwn k c row
unfolding contribution_field
reads_own k c row range printed =
    let (is, read) = optional_read row 6 (own_contribution k c) (own IsPrintable k c (contribution c range)) printed in
    record { is_number = is; read = read; range = (Decides-is_own_contribution (own_contribution k c)).1 (own IsContribution k c range) }

-- ---- streams

-- the load that a stream gives
no_load : (s : Stream) → IsSensible s → own_load s.load ≡ None
no_load s sensible = rw sensible.load refl

some_load : (s : Stream) → IsLatent s → own_load s.load ≡ Some s.load
some_load s latent =
    let more = (Decides-not _ (Decides-int_eq s.load (pos 0))).1 (λ none. absurd (omega (arith, ints, latent.load.from, none))) in
    rw (not_true _ more) refl
  where
    not_true : (b : Bool) → not b ≡ true → b ≡ false
    not_true true e = cc e
    not_true false e = refl

pub load_printable : (s : Stream) → IsValidStream s → IfSome (own_load s.load) IsPrintable
load_printable s valid = by valid.heat
  where
    by : IsSensible s ⊎ IsLatent s → IfSome (own_load s.load) IsPrintable
    by (inl sensible) = rw (no_load s sensible) tt
    by (inr latent) = rw (some_load s latent) (load s.load latent.load)

-- what its row says of a stream that gives this load and this contribution
abbrev pub data_of : Stream → Option ℤ → Option ℤ → StreamData
data_of s load contribution =
    record { side = s.side; supply = s.supply; target = s.target; cp = s.cp; load = load; contribution = contribution }

-- the stream passes the checks of its heat then
record PassesHeat (s : Stream) (given : Option ℤ) : Type 0 where
  cp : is_flow_rate_beside given s.cp ≡ true
  load : is_own_load given ≡ true
  heat : (contribution : Option ℤ) → Passes (heat_checks (data_of s given contribution))

sensible_passes : (s : Stream) → IsSensible s → PassesHeat s None
unfolding is_own_load heat_checks
sensible_passes s sensible = record {
  cp = within-passes _ _ _ sensible.cp;
  load = refl;
  heat = λ contribution. (
    (Decides-not _ (Decides-int_eq s.supply s.target)).1 (differs s.side s.supply s.target sensible.way),
    ((Decides-is_right_way s.side s.supply s.target).1 sensible.way, tt),
  );
}
  where
    differs : (of : Side) (supply target : ℤ) → IsRightWay of supply target → supply ≡ target → ⊥
    differs side.Hot supply target way level = omega (arith, ints, way, level)
    differs side.Cold supply target way level = omega (arith, ints, way, level)

latent_passes : (s : Stream) → IsLatent s → PassesHeat s (Some s.load)
unfolding is_own_load heat_checks
latent_passes s latent = record {
  cp = within-passes _ _ _ (omega (arith, ints, latent.cp));
  load = within-passes _ _ _ latent.load;
  heat =
      λ contribution. ((Decides-and _ _ (Decides-int_eq s.supply s.target) (Decides-int_eq s.cp (pos 0))).1 (latent.level, latent.cp), tt);
}

passes_heat : (s : Stream) → IsValidStream s → PassesHeat s (own_load s.load)
passes_heat s valid = by valid.heat
  where
    by : IsSensible s ⊎ IsLatent s → PassesHeat s (own_load s.load)
    by (inl sensible) = rw (no_load s sensible) (sensible_passes s sensible)
    by (inr latent) = rw (some_load s latent) (latent_passes s latent)

-- the sixth field, in which the load is printed
reads_load : (s : Stream) (row : Row) → IsValidStream s → field row 5 ≡ load_field s.load
    → (is_number_or_empty row 5 ≡ true) × (optional_number row 5 ≡ own_load s.load)
unfolding load_field
reads_load s row valid printed = optional_read row 5 (own_load s.load) (load_printable s valid) printed

abbrev pub stream_entry : Case → Stream → List ℕ × StreamData
stream_entry k s = (s.name, data_of s (own_load s.load) (own_contribution k s.contribution))

kind_of-stream_row : (k : Case) (s : Stream) → kind_of (stream_row k s) ≡ Some (kind.Stream s.side)
unfolding kind_of
kind_of-stream_row k s = stream_row-kind kind.PassedOver kind_in kind.Stream refl refl s.side _

-- a stream of which an earlier row gave neither the name nor too many of its side
pub stream_follows : (given : Given) (k : Case) (s : Stream) → IsValidStream s → IsUnreserved s.name
    → count_of s.side given.streams < MOST_STREAMS
    → All (λ other. other ≢ s.name) (keys_of given.streams ++ keys_of given.utilities)
    → Follows grammar given (stream_row k s) (with_entry given (entry.Stream s.name (stream_entry k s).1))
unfolding checks kind_checks stream_checks stream_number_checks are_empty is_number number is_reserved
stream_follows given k s valid unreserved few new =
    let row = stream_row k s in
    let is = kind_of-stream_row k s in
    let supply = number_read s.supply (temperature s.supply valid.supply) in
    let target = number_read s.target (temperature s.target valid.target) in
    let cp = number_read s.cp (stream_flow_rate s valid) in
    let (is_load, load) = reads_load s row valid refl in
    let heat = passes_heat s valid in
    let own = reads_own k s.contribution row valid.contribution refl in
    let place =
    room-passes (count_on s.side (case_of given).streams) MOST_STREAMS (rw (count_on-case s.side (unwrap_or given.contribution (pos 0)) given.streams) few) in
    let free = (Decides-is_taken (case_of given) s.name).1 (rw (names_of-case given) new) in
    let from = within-passes _ _ _ valid.supply in
    let to = within-passes _ _ _ valid.target in
    let numbers : Passes (stream_number_checks s.side row) = rw (supply, target, cp, load, own.read)
    (refl, (refl, (refl, (is_load, (own.is_number, (from, (to, (heat.cp, (heat.load, (own.range, heat.heat _)))))))))) in
    let reserved = (Decides-neither s.name (codes "HOT") (codes "COLD")).1 unreserved in
    let passes : Passes (checks given row) =
    rw is (refl, (refl, (place, (name-passes s.name valid.name, (reserved, (free, numbers)))))) in
    record { passes = none_fails (checks given row) passes; next_is = rw (is, supply, target, cp, load, own.read) refl }

-- ---- utilities

abbrev pub utility_entry : Case → Utility → List ℕ × UtilityData
utility_entry k u =
    (u.name, record { side = u.side; level = u.level; least = u.least; most = u.most; price = u.price; contribution = own_contribution k u.contribution })

utility_row_kind : (of : Side) (fields : Row) → kind_of (utility_kind of ∷ fields) ≡ Some (kind.Utility of)
unfolding kind_of is_passed_over are_empty
utility_row_kind side.Hot fields = refl
utility_row_kind side.Cold fields = refl

pub utility_follows : (given : Given) (k : Case) (u : Utility) → IsValidUtility u → IsRightlyNamed u
    → length given.utilities < MOST_UTILITIES
    → All (λ other. other ≢ u.name) (keys_of given.streams ++ keys_of given.utilities)
    → Follows grammar given (utility_row k u) (with_entry given (entry.Utility u.name (utility_entry k u).1))
unfolding checks kind_checks utility_checks utility_number_checks are_empty is_number number
utility_follows given k u valid named few new =
    let row = utility_row k u in
    let is : kind_of row ≡ Some (kind.Utility u.side) = utility_row_kind u.side _ in
    let most_range : IsHeat u.most
    = record { from = omega (arith, ints, valid.least.from, valid.most.from); upto = valid.most.upto } in
    let level = number_read u.level (temperature u.level valid.level) in
    let least = number_read u.least (heat u.least valid.least) in
    let most = number_read u.most (heat u.most most_range) in
    let each = number_read u.price (price u.price valid.price) in
    let own = reads_own k u.contribution row valid.contribution refl in
    let free = (Decides-is_taken (case_of given) u.name).1 (rw (names_of-case given) new) in
    let order = (Decides-int_le u.least u.most).1 valid.most.from in
    let fair = within-passes _ _ _ valid.price in
    let placed = within-passes _ _ _ valid.level in
    let low = within-passes _ _ _ valid.least in
    let high = within-passes _ _ _ most_range in
    let numbers : Passes (utility_number_checks row) = rw (level, least, most, each, own.read)
    (refl, (refl, (refl, (refl, (own.is_number, (placed, (low, (high, (fair, (own.range, (order, tt))))))))))) in
    let passes : Passes (checks given row) =
    rw is (refl, (refl, (room-passes _ _ few, (name-passes u.name valid.name, ((Decides-is_reserved_from u.side u.name).1 named, (free, numbers)))))) in
    record { passes = none_fails (checks given row) passes; next_is = rw (is, level, least, most, each, own.read) refl }

-- ---- forbidden matches

-- a source of the case so far, as its name finds it
pub record IsFound (given : Given) (of : Side) (s : Source) (name : List ℕ) : Type 0 where
  pub is_name : IsName name
  pub named : source_named (case_of given) name ≡ Some s
  pub on : side_of (case_of given) s ≡ Some of

pub forbid_follows : (given : Given) (k : Case) (f : Forbid) → IsFound given side.Hot f.hot (source_name k f.hot)
    → IsFound given side.Cold f.cold (source_name k f.cold) → length given.forbids < MOST_FORBIDS
    → All (λ g. g ≢ f) given.forbids
    → Follows grammar given (forbid_row k f) (with_entry given (entry.Forbid f))
unfolding checks kind_checks forbid_checks kind_of is_passed_over are_empty
forbid_follows given k f hot cold few new =
    let h = is_source-named side.Hot (case_of given) (source_name k f.hot) f.hot hot.named hot.on in
    let c = is_source-named side.Cold (case_of given) (source_name k f.cold) f.cold cold.named cold.on in
    let free = (Decides-is_forbidden given.forbids f.hot f.cold).1 new in
    let passes : Passes (checks given (forbid_row k f)) =
    (refl, (refl, (refl, (room-passes _ _ few, (name-passes _ hot.is_name, (name-passes _ cold.is_name, (h, (c, (rw (hot.named, cold.named) free, tt))))))))) in
    record { passes = none_fails (checks given (forbid_row k f)) passes; next_is = rw (hot.named, cold.named) refl }
