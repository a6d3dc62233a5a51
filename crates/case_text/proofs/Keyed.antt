-- What is kept under a key goes by the grammar: the rows give the same, and the key stays.
use Rattle.case_text.proofs.Words.{CaseWhy, Given, IsOutcome, KeyedGiven, Row, RowFault, end_fault, first_failing, given_by, grammar, nothing}
use Rattle.case_text.specs.Outcome.{keyed_grammar}
use Rattle.first_fault.specs.Outcome.{SoundBefore, fault_at}
use Rattle.rows.specs.Outcome.{IsRowOutcome}
use Rattle.std.proofs.Common.{Err, IfErr, IsErrAnd, List, Ok, Result, [], ap, fold, inl, inr, length, option_and_then, refl, slice_get, subst, sym, take, ℕ, ◌∙◌, ◌∷◌, ◌≡◌}
use Rattle.std.specs.declared.hash.DefaultHasher.{DefaultHasher}
use Rattle.case_text.specs.Checks.{checks}
use Rattle.case_text.specs.Given.{next}
use Rattle.rows.specs.declared.fault.RowFault.TheVariants as fault

module _ (key : DefaultHasher) where
  kept : (given : Given) (rows : List Row)
      → fold (keyed_grammar key).next (record { rows = given; key = key }) rows
      ≡ record { rows = fold grammar.next given rows; key = key }
  kept given [] = refl
  kept given (row ∷ rows) = kept (next given row) rows

  pub given_by-keyed : (rows : List Row)
      → given_by (keyed_grammar key) rows ≡ record { rows = given_by grammar rows; key = key }
  given_by-keyed rows = kept nothing rows

  fault_at-keyed : (rows : List Row) (k : ℕ) → fault_at (keyed_grammar key) rows k ≡ fault_at grammar rows k
  fault_at-keyed rows k =
      ap (λ (g : KeyedGiven). option_and_then (λ row. first_failing (checks g.rows row)) (slice_get rows k)) (given_by-keyed (take k rows))

  pub sound-keyed : (rows : List Row) (n : ℕ) → SoundBefore (keyed_grammar key) rows n → SoundBefore grammar rows n
  sound-keyed rows n sound k within = sym (fault_at-keyed rows k) ∙ sound k within

  pub fault-keyed : (rows : List Row) (f : RowFault CaseWhy) → IsRowOutcome (keyed_grammar key) rows (Err f)
      → IsOutcome rows (Err f)
  fault-keyed rows (fault.Row row why) (inl (index, is, first)) = inl (
    index,
    is,
    record {
      before = sound-keyed rows index first.before;
      cause_is = sym (fault_at-keyed rows index) ∙ first.cause_is;
    },
  )
  fault-keyed rows (fault.Row row why) (inr end) = inr (record {
    sound = sound-keyed rows (length rows) end.sound;
    fault_is =
        sym (ap (λ (g : KeyedGiven). end_fault (length rows) g.rows) (given_by-keyed rows)) ∙ end.fault_is;
  })
  fault-keyed rows fault.OutOfMemory is = tt

-- a fault is handed on as it is
pub handed_on : {V : Type 0} (rows : List Row) (r : Result V (RowFault CaseWhy)) (f : RowFault CaseWhy)
    → IsErrAnd r (λ g. g ≡ f) → IsOutcome rows (Err f)
    → IfErr r (λ g. IsOutcome rows (Err g))
handed_on rows (Ok v) f none is = tt
handed_on rows (Err g) f same is = subst (λ (h : RowFault CaseWhy). IsOutcome rows (Err h)) (sym same) is
