-- A run keeps what it is to keep.
use Rattle.commands.proofs.PrintedDesigns.{accepted-answered, audited}
use Rattle.pinch.proofs.Causes.{causes}
use Rattle.commands.proofs.Complete.{bad_file, complete}
use Rattle.commands.proofs.PrintedProofs.{certified}
use Rattle.pinch.proofs.Words.{OutOfMemory, ShelfState, Shown, ShowsCommand, SiteShown, Status, WriteFault, number_of, status_of, ⊤}
use Rattle.pinch.specs.Run.{Prints, Runs, cut, whole}
use Rattle.std.proofs.Common.{List, None, Option, Some, ap, arith, inl, inr, refl, sym, ℕ, ◌∙◌, ◌≡◌}
use Rattle.transport.specs.declared.answer.Answer.TheVariants as answer

-- what is shown blames neither the sink nor memory
abbrev IsOfShown : Status → Type 0
IsOfShown WriteFault = ⊥
IsOfShown OutOfMemory = ⊥
IsOfShown other = ⊤

of_shown : (shown : Shown) → IsOfShown (status_of shown)
of_shown (SiteShown site parts sinks sources (answer.Least flow prices cost)) = tt
of_shown (SiteShown site parts sinks sources (answer.Stuck parts_cut)) = tt
of_shown other = tt

not_write_fault : (status : Status) → IsOfShown status → number_of status ≡ number_of WriteFault → ⊥
not_write_fault WriteFault is e = absurd is
not_write_fault other is e = absurd (omega (arith, e))

not_out_of_memory : (status : Status) → IsOfShown status → number_of status ≡ number_of OutOfMemory → ⊥
not_out_of_memory OutOfMemory is e = absurd is
not_out_of_memory other is e = absurd (omega (arith, e))

module _ {Sink : Type 0} (text_on : Sink → Option (List ℕ)) (faults_of : Sink → ℕ) (words : List (List ℕ)) (old new : ShelfState) (before now : Sink) where
  pub of_print : (shown : Shown) (status : Status) (number : ℕ) → number ≡ number_of status
      → ShowsCommand words old new shown
      → Prints (text_on before) (text_on now) (faults_of before) (faults_of now) shown status
      → Runs text_on faults_of words old new before now (record { status = number; shown = Some shown })
  of_print shown status number numbered shows (whole is wrote front) =
      let number_is = numbered ∙ ap number_of is in
      record {
        shown = shows;
        causes = causes words old new shown shows;
        status = inl number_is;
        memory = (λ none. cc, λ e. absurd (not_out_of_memory (status_of shown) (of_shown shown) (sym number_is ∙ e)));
        untouched = λ e. absurd (not_out_of_memory (status_of shown) (of_shown shown) (sym number_is ∙ e));
        written = inr wrote;
        front = front;
        write_fault = λ e. absurd (not_write_fault (status_of shown) (of_shown shown) (sym number_is ∙ e));
        complete = λ can no_fault no_write_fault. (number_is, complete words old new shown shows can no_fault);
        refused = λ refusal bad no_fault. bad_file words old new shown shows refusal bad no_fault;
        certified =
            λ proof no_fault no_write_fault. number_is
            ∙ ap number_of (certified words old new shown shows proof no_fault);
        audited = λ design held no_fault no_write_fault.
            let accepts = audited words old new shown shows design held no_fault in
            (number_is ∙ ap number_of (accepted-answered design shown accepts), accepts);
      }
  of_print shown status number numbered shows (cut is front rose) =
      let number_is = numbered ∙ ap number_of is in
      record {
        shown = shows;
        causes = causes words old new shown shows;
        status = inr number_is;
        memory = (λ none. cc, λ e. absurd (omega (arith, number_is, e)));
        untouched = λ e. absurd (omega (arith, number_is, e));
        written = inl number_is;
        front = front;
        write_fault = λ e. rose;
        complete = λ can no_fault no_write_fault. absurd (no_write_fault rose);
        refused = λ refusal bad no_fault. bad_file words old new shown shows refusal bad no_fault;
        certified = λ proof no_fault no_write_fault. absurd (no_write_fault rose);
        audited = λ design held no_fault no_write_fault. absurd (no_write_fault rose);
      }

  -- memory was wanted, and nothing was written
  pub without_memory : now ≡ before
      → Runs text_on faults_of words old new before now (record { status = number_of OutOfMemory; shown = None })
  without_memory same = record {
    shown = tt;
    causes = tt;
    status = tt;
    memory = (λ none. refl, λ is. refl);
    untouched = λ is. same;
    written = tt;
    front = tt;
    write_fault = λ is. absurd (omega (arith, is));
    complete = λ can no_fault no_write_fault. tt;
    refused = λ refusal bad no_fault. tt;
    certified = λ proof no_fault no_write_fault. tt;
    audited = λ design held no_fault no_write_fault. tt;
  }
