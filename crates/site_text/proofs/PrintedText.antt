-- The printed text of a valid site is read as the site.
use Rattle.site_text.proofs.Words.{All-append, All-cons, All-head, All-map, All-nil, All-plants, All-tail, All-weaker, IsName, IsSite, IsTemperature, IsValidSite}
use Rattle.site_text.proofs.Words.{IsValidStream, Main, Plant, Site, Stream, codes, contribution_row, flat_map, main_row, plant_row, plant_rows, printed_rows}
use Rattle.site_text.proofs.Words.{rows_of, rows_text, stream_row, temperature}
use Rattle.rows.proofs.PrintedRows.{IsPrintedField, IsPrintedRow, contribution_printed, name_field, no_field, number_field, seven_fields, stream_printed}
use Rattle.site_text.proofs.PrintedSite.{rows_back}
use Rattle.std.proofs.Common.{All, List, [], arith, map, refl, subst, sym, ℕ, ◌∷◌, ◌≡◌}
use Rattle.rows.proofs.PrintedRows as printed

-- ---- the rows

mains_printed : (mains : List Main) → All (λ m. IsName m.name) mains → All (λ m. IsTemperature m.level) mains
    → All IsPrintedRow (map main_row mains)
mains_printed [] names levels = All-nil IsPrintedRow
mains_printed (m ∷ ms) names levels =
    let kind : IsPrintedField (codes "main") = record { plain = refl; short = omega arith } in
    let name = name_field m.name (All-head (λ (m : Main). IsName m.name) m ms names) in
    let level = number_field m.level (temperature m.level (All-head (λ (m : Main). IsTemperature m.level) m ms levels)) in
    let rest = mains_printed ms (All-tail (λ (m : Main). IsName m.name) m ms names) (All-tail (λ (m : Main). IsTemperature m.level) m ms levels) in
    All-cons IsPrintedRow (main_row m) (map main_row ms) (seven_fields _ _ _ _ _ _ _ kind name level no_field no_field no_field no_field) rest

plant_printed : (plant : Plant) → IsName plant.name → All IsValidStream plant.streams
    → All IsPrintedRow (plant_rows plant)
plant_printed plant named valid =
    let kind : IsPrintedField (codes "plant") = record { plain = refl; short = omega arith } in
    let first = seven_fields _ _ _ _ _ _ _ kind (name_field plant.name named) no_field no_field no_field no_field no_field in
    let each = All-weaker IsValidStream (λ (s : Stream). IsPrintedRow (stream_row [] [] s)) (stream_printed [] [] no_field no_field) plant.streams valid in
    All-cons IsPrintedRow (plant_row plant) (map (stream_row [] []) plant.streams) first (All-map IsPrintedRow (stream_row [] []) plant.streams each)

plants_printed : (plants : List Plant) → All (λ p. IsName p.name) plants → All (λ p. All IsValidStream p.streams) plants
    → All IsPrintedRow (flat_map plant_rows plants)
plants_printed [] names valid = All-nil IsPrintedRow
plants_printed (p ∷ ps) names valid =
    let Named : Plant → Type 0 = λ p. IsName p.name in
    let Valid : Plant → Type 0 = λ p. All IsValidStream p.streams in
    let own = plant_printed p (All-head Named p ps names) (All-head Valid p ps valid) in
    let rest = plants_printed ps (All-tail Named p ps names) (All-tail Valid p ps valid) in
    All-append IsPrintedRow (plant_rows p) (flat_map plant_rows ps) own rest

rows_printed : (site : Site) → IsValidSite site → All IsPrintedRow (printed_rows site)
unfolding printed_rows
rows_printed site valid =
    let mains = mains_printed site.mains valid.mains.names valid.mains.levels in
    let plants = plants_printed site.plants valid.plants.names (All-plants IsValidStream site.plants valid.streams.each) in
    let all = All-append IsPrintedRow (map main_row site.mains) (flat_map plant_rows site.plants) mains plants in
    All-cons IsPrintedRow (contribution_row site.contribution) _ (contribution_printed site.contribution valid.contribution) all

-- ---- the text

begins : (site : Site) → (text : List ℕ) × (rows_text (printed_rows site) ≡ 99 ∷ text)
unfolding printed_rows
begins site = (_, refl)

-- the printed text is read as the site
pub text_back : (site : Site) → IsValidSite site → IsSite (rows_of (rows_text (printed_rows site))) site
text_back site valid = let (text, starts) = begins site in
    subst (λ rows. IsSite rows site) (sym (printed.rows_back (printed_rows site) text (rows_printed site valid) starts)) (rows_back site valid)
