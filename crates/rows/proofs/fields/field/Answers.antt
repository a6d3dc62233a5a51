use Rattle.csv.specs.Records.{field_at, fields_of}
use Rattle.std.proofs.Common.{Bor, List, None, Option, Some, [], ap, option_map, refl, slice_get, suc, unwrap_or, zero, ℕ, ◌∙◌, ◌∷◌, ◌≡◌}
use Rattle.std.proofs.lemmas.Option.{unwrap_or-slice_get}
use Rattle.rows.proofs.fields.field.Goals as goal

field_at-slice_get : (fields : List (List ℕ)) (i : ℕ) → field_at fields i ≡ slice_get fields i
unfolding field_at
field_at-slice_get [] i = refl
field_at-slice_get (f ∷ fs) zero = refl
field_at-slice_get (f ∷ fs) (suc i) = field_at-slice_get fs i

-- `get(index).unwrap_or(b"")`
now-unwrap_or : (o : Option (Bor (List ℕ))) (d : Bor (List ℕ))
    → (unwrap_or o d).now ≡ unwrap_or (option_map (λ s. s.now) o) d.now
now-unwrap_or None d = refl
now-unwrap_or (Some s) d = refl

pub returns : goal.returns
returns c =
    let fields = fields_of c.args.row.now in
    ap (λ (s : Bor (List ℕ)). s.now) c.unwrap_or.ensures ∙ now-unwrap_or c.get.result _
    ∙ ap (λ o. unwrap_or o []) (c.get.ensures.value ∙ field_at-slice_get fields c.args.index)
    ∙ unwrap_or-slice_get fields c.args.index []
