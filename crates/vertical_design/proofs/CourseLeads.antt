-- The course of a stream goes from interval to interval, from its supply to its target.
use Rattle.vertical_design.proofs.Words.{LedStage, Meet, Rational, Side, Stream, first_end, high_end, last_end, low_end, reverse, reverse-append}
use Rattle.vertical_design.proofs.Words.{state_behind, whole}
use Rattle.std.proofs.Common.{List, [], refl, subst, sym, ◌++◌, ◌∙◌, ◌∷◌, ◌≡◌}
use Rattle.design_lines.specs.Ways.{on_the_way}
use Rattle.stream_case.specs.declared.source.Side.TheVariants as side

-- the temperatures of a stage of a stream of a side at its upper and at its lower cut
abbrev pub upper : Side → LedStage → Rational
upper side.Hot stage = stage.before
upper side.Cold stage = stage.after

abbrev pub lower : Side → LedStage → Rational
lower side.Hot stage = stage.after
lower side.Cold stage = stage.before

-- stages that lie below each other from one temperature to another
abbrev pub FallTo : Side → Rational → List LedStage → Rational → Type 0
FallTo of from [] to = from ≡ to
FallTo of from (stage ∷ stages) to = (upper of stage ≡ from) × FallTo of (lower of stage) stages to

-- stages that meet from one temperature to another
abbrev pub Leads : Rational → List LedStage → Rational → Type 0
Leads from stages to = Meet from stages × (state_behind from stages ≡ to)

falls_lead : (stages : List LedStage) (from to : Rational) → FallTo side.Hot from stages to → Leads from stages to
falls_lead [] from to fall = (tt, fall)
falls_lead (stage ∷ stages) from to fall =
    let rest = falls_lead stages stage.after to fall.1 in
    ((fall.0, rest.0), rest.1)

leads_push : (stages : List LedStage) (from to : Rational) (stage : LedStage) → Leads from stages to → stage.before ≡ to
    → Leads from (stages ++ stage ∷ []) stage.after
leads_push [] from to stage leads meets = ((meets ∙ sym leads.1, tt), refl)
leads_push (first ∷ stages) from to stage leads meets =
    let rest = leads_push stages first.after to stage (leads.0.1, leads.1) meets in
    ((leads.0.0, rest.0), rest.1)

falls_lead_up : (stages : List LedStage) (from to : Rational) → FallTo side.Cold from stages to
    → Leads to (reverse stages) from
falls_lead_up [] from to fall = (tt, sym fall)
falls_lead_up (stage ∷ stages) from to fall =
    let turned : reverse (stage ∷ stages) ≡ reverse stages ++ stage ∷ [] = reverse-append (stage ∷ []) stages in
    let leads_up = falls_lead_up stages stage.before to fall.1 in
    let led = leads_push (reverse stages) to stage.before stage leads_up refl in
    subst (Leads to (reverse (stage ∷ stages))) fall.0
    (subst (λ (ss : List LedStage). Leads to ss stage.after) (sym turned) led)

-- the way of a stream of a side, with f of the temperatures of its ends
pub way_leads : (of : Side) (stages : List LedStage) (f : Rational → Rational) (s : Stream)
    → FallTo of (f (whole (high_end s))) stages (f (whole (low_end s)))
    → Leads (f (whole (first_end of s))) (on_the_way of stages) (f (whole (last_end of s)))
way_leads side.Hot stages f s fall = falls_lead stages (f (whole (high_end s))) (f (whole (low_end s))) fall
way_leads side.Cold stages f s fall = falls_lead_up stages (f (whole (high_end s))) (f (whole (low_end s))) fall
