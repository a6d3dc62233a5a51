use Rattle.case_text.proofs.Sources.{few_streams, side_of-case, source_named-case}
use Rattle.std.proofs.Common.{arith, refl, ◌∙◌}
use Rattle.case_text.proofs.Words.{slice_get_within}
use Rattle.case_text.proofs.given.Given.source_named.Goals as goal
use Rattle.stream_case.specs.declared.source.Source.TheVariants as source

pub overflow_cast-result : goal.overflow_cast-result
overflow_cast-result c =
    let within = slice_get_within c.self.inside.streams.entries c.in-Some.index _ c.in-Some.ensures.entry in
    omega (arith, few_streams c.self.inside.streams.entries c.self.inside.utilities.entries c.self.invariant.0, within)

pub returns-in-Some : goal.returns-in-Some
returns-in-Some c = (
  rw (source_named-case, ← c.self.view_is, ← c.in-Some.ensures.index) refl,
  side_of-case c.args.self.now.rows (source.Stream c.in-Some.index) ∙ rw (← c.self.view_is, c.in-Some.ensures.entry) refl,
)

pub returns-in_err-index : goal.returns-in_err-index
returns-in_err-index c =
    rw (c.from_residual.ensures, source_named-case, ← c.self.view_is, ← c.in_default.ensures.index, ← c.in_err-index.ensures.index) refl

pub returns : goal.returns
returns c = (
  rw (source_named-case, ← c.self.view_is, ← c.in_default.ensures.index, ← c.in_ok-index.ensures.index) refl,
  side_of-case c.args.self.now.rows (source.Utility c.in_ok-index.index)
      ∙ rw (← c.self.view_is, c.in_ok-index.ensures.entry) refl,
)
