-- Each printed row follows on the rows before it.
use Rattle.site_text.proofs.Words.{Decides-is_right_way, Follows, Given, IsName, IsSensible, IsTemperature, IsUnreserved, IsValidStream, MOST_MAINS}
use Rattle.site_text.proofs.Words.{MOST_PLANTS, MOST_SIDE_STREAMS, Main, Passes, Plant, Side, Stream, count_on, flow_rate}
use Rattle.site_text.proofs.Words.{grammar, kind_of, main_row, name-passes, nat_tests, none_fails, number_read, plant_row, room-passes}
use Rattle.site_text.proofs.Words.{stream_row, streams_of, temperature, stream_with, with_entry, within-passes}
use Rattle.site_text.proofs.Words.{Decides-neither, codes, is_reserved, kind_in, stream_row-kind}
use Rattle.rows.specs.Fields.{are_empty, is_number, is_passed_over, number}
use Rattle.site_text.proofs.Tests.{Decides-is_among}
use Rattle.site_text.specs.Checks.{checks, kind_checks, main_checks, plant_checks, stream_checks, stream_number_checks}
use Rattle.std.proofs.Common.{All, List, Some, [], arith, length, map, not, pos, refl, true, ◌<◌, ◌==◌, ◌≡◌, ◌≢◌}
use Rattle.site_text.specs.declared.entry.Entry.TheVariants as entry
use Rattle.site_text.specs.declared.kind.Kind.TheVariants as kind
use Rattle.stream_case.specs.declared.source.Side.TheVariants as side

pub main_follows : (given : Given) (main : Main) → IsName main.name → IsTemperature main.level
    → length given.mains < MOST_MAINS
    → All (λ other. other ≢ main.name) (map (λ m. m.name) given.mains)
    → Follows grammar given (main_row main) (with_entry given (entry.Main main))
unfolding checks kind_checks main_checks kind_of is_passed_over are_empty is_number number
main_follows given main named range few new =
    let read = number_read main.level (temperature main.level range) in
    let free = (Decides-is_among (λ (m : Main). m.name) given.mains main.name).1 new in
    let passes : Passes (checks given (main_row main)) =
    rw read (refl, (refl, (refl, (room-passes _ _ few, (name-passes main.name named, (free, (refl, (within-passes _ _ _ range, tt)))))))) in
    record { passes = none_fails (checks given (main_row main)) passes; next_is = rw read refl }

pub plant_follows : (given : Given) (plant : Plant) → IsName plant.name → length given.plants < MOST_PLANTS
    → All (λ other. other ≢ plant.name) (map (λ p. p.name) given.plants)
    → Follows grammar given (plant_row plant) (with_entry given (entry.Plant plant.name))
unfolding checks kind_checks plant_checks kind_of is_passed_over are_empty
plant_follows given plant named few new =
    let free = (Decides-is_among (λ (p : Plant). p.name) given.plants plant.name).1 new in
    let passes : Passes (checks given (plant_row plant))
    = (refl, (refl, (refl, (room-passes _ _ few, (name-passes plant.name named, (free, tt)))))) in
    record { passes = none_fails (checks given (plant_row plant)) passes; next_is = refl }

kind_of-stream_row : (s : Stream) → kind_of (stream_row [] [] s) ≡ Some (kind.Stream s.side)
unfolding kind_of
kind_of-stream_row s = stream_row-kind kind.PassedOver kind_in kind.Stream refl refl s.side _

some_plant : (plants : List Plant) → 0 < length plants → not (length plants == 0) ≡ true
some_plant plants some = grind (arith, nat_tests)

-- a stream below a plant, of which an earlier row gave neither the name nor too many of its side
pub stream_follows : (given : Given) (s : Stream) → IsValidStream s → IsSensible s → IsUnreserved s.name
    → 0 < length given.plants
    → count_on s.side (streams_of given.plants) < MOST_SIDE_STREAMS
    → All (λ other. other ≢ s.name) (map (λ t. t.name) (streams_of given.plants))
    → Follows grammar given (stream_row [] [] s) (with_entry given (entry.Stream (stream_with (pos 0) s)))
unfolding checks kind_checks stream_checks stream_number_checks are_empty is_number number is_reserved
stream_follows given s valid sensible unreserved some few new =
    let no_load = sensible.load in
    let is = kind_of-stream_row s in
    let supply = number_read s.supply (temperature s.supply valid.supply) in
    let target = number_read s.target (temperature s.target valid.target) in
    let cp = number_read s.cp (flow_rate s.cp sensible.cp) in
    let free = (Decides-is_among (λ (t : Stream). t.name) (streams_of given.plants) s.name).1 new in
    let way = (Decides-is_right_way s.side s.supply s.target).1 sensible.way in
    let reserved = (Decides-neither s.name (codes "BOILER") (codes "COOLING")).1 unreserved in
    let numbers : Passes (stream_number_checks s.side (stream_row [] [] s)) = rw (supply, target, cp)
    (refl, (refl, (refl, (within-passes _ _ _ valid.supply, (within-passes _ _ _ valid.target, (within-passes _ _ _ sensible.cp, (way, tt))))))) in
    let passes : Passes (checks given (stream_row [] [] s)) = rw is
    (refl, (refl, (refl, (room-passes _ _ few, (some_plant given.plants some, (name-passes s.name valid.name, (reserved, (free, numbers)))))))) in
    record { passes = none_fails (checks given (stream_row [] [] s)) passes; next_is = rw (is, supply, target, cp, no_load) refl }
