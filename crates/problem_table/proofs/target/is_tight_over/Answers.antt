-- The code compares the bits of the two numbers.
use Rattle.problem_table.proofs.Words.{deficit_over, to_z-of_z}
use Rattle.std.proofs.Common.{FitsSigned, ap, eq-eqb, eqb-true, rules, sym, w32, w64, ◌∙◌}
use Rattle.problem_table.proofs.target.is_tight_over.Goals as goal
use Rattle.std.specs.Int.{cast_signed as to_z, cast_unsigned as of_z}

pub returns : goal.returns
returns c =
    let fits : FitsSigned w64 c.deficit_over.result = search rules in
    let value = c.deficit_over.ensures.value
    ∙ ap (deficit_over c.args.from_itself c.args.streams.now) (to_z-of_z w32 c.args.t c.ranges.t) in (
      λ same. sym value ∙ sym (to_z-of_z w64 c.deficit_over.result fits) ∙ ap (to_z w64) (eqb-true _ _ same)
          ∙ to_z-of_z w64 c.args.hot c.ranges.hot
          ∙ c.requires.hot,
      λ tight. eq-eqb _ _ (ap (of_z w64) (value ∙ tight ∙ sym c.requires.hot)),
    )
