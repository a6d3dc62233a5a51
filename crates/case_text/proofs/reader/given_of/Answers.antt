use Rattle.case_text.proofs.Keyed.{fault-keyed, given_by-keyed, handed_on, sound-keyed}
use Rattle.case_text.proofs.Words.{IsOutcome, KeyedGiven, Row, rows_of}
use Rattle.std.proofs.Common.{Err, IfErr, List, ap, length, subst, ◌∙◌}
use Rattle.case_text.proofs.reader.given_of.Goals as goal

pub returns-in_err-number-clause-fault : goal.returns-in_err-number-clause-fault
returns-in_err-number-clause-fault c =
    let rows = c.new-rows.result in
    let is = fault-keyed c.new-given.result.key rows c.in_err-number.field-0.0 c.in_err-number.ensures.fault in
    subst (λ (l : List Row). IfErr c.from_residual.result (λ f. IsOutcome l (Err f))) c.new-rows.ensures.rows
    (handed_on rows c.from_residual.result _ c.from_residual.ensures.1 is)

pub returns-clause-key : goal.returns-clause-key
returns-clause-key c =
    ap (λ (g : KeyedGiven). g.key) (c.in_ok-number.ensures.given ∙ given_by-keyed c.new-given.result.key c.new-rows.result)
    ∙ c.new-given.ensures.key

pub returns-clause-given : goal.returns-clause-given
returns-clause-given c =
    let rows = rw c.new-rows.ensures.rows at c.in_ok-number.ensures.given in
    ap (λ (g : KeyedGiven). g.rows) (rows ∙ given_by-keyed c.new-given.result.key (rows_of c.args.bytes.now))

pub returns-clause-sound : goal.returns-clause-sound
returns-clause-sound c =
    let rows = rows_of c.args.bytes.now in
    sound-keyed c.new-given.result.key rows (length rows) (rw c.new-rows.ensures.rows at c.in_ok-number.ensures.sound)
