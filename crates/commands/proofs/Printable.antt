-- All that a command shows can be printed.
use Rattle.commands.proofs.Formats.{IsLawful}
use Rattle.commands.proofs.Readings.{IsFurther, IsLawfulReading, lawful}
use Rattle.commands.proofs.Results.{is_result}
use Rattle.commands.proofs.Words.{EndsIn, FileRole, Format, FromText, IsPrintable, NoFile, NoText, Reading, Request, ShelfState, Shown, Shows}
use Rattle.commands.proofs.Words.{ShowsCommand, by_text, failed, file, no_file, no_text, reading_of, ready, refused, stop, too_long, wanted}
use Rattle.std.proofs.Common.{List, Result, inl, inr, subst, sym, ℕ, ◌≡◌}

of_is : (shown result : Shown) → shown ≡ result → IsPrintable result → IsPrintable shown
of_is shown result is printable = subst IsPrintable (sym is) printable

of_no_file : (role : FileRole) (name : List ℕ) (old new : ShelfState) (shown : Shown)
    → NoFile role name old new shown → IsPrintable shown
unfolding IsPrintable
of_no_file role name old new shown (failed fault is) = of_is shown _ is tt
of_no_file role name old new shown (too_long long is) = of_is shown _ is tt

module _ {Value Cause : Type 0} (format : Format Value Cause) (is_lawful : IsLawful format) (name : List ℕ) where
  of_no_text : (old new : ShelfState) (shown : Shown) → NoText format name old new shown → IsPrintable shown
  of_no_text old new shown (no_file none) = of_no_file format.role name old new shown none
  of_no_text old new shown (refused bytes whole refusal) =
      of_is shown _ refusal.is (is_lawful.printable refusal.at refusal.why)

  of_text : (old new : ShelfState) (end : Result Request Shown) (shown : Shown) (work : ShelfState → Value → Type 0)
      → Shows end shown
      → ((mid : ShelfState) (value : Value) → work mid value → IsPrintable shown)
      → FromText format name old new end work → IsPrintable shown
  of_text old new end shown work shows next (no_text early is none) =
      of_is shown early (subst (λ e. Shows e shown) is shows) (of_no_text old new early none)
  of_text old new end shown work shows next (by_text mid value reads then) = next mid value then

of_further : (reading : Reading) → IsFurther reading
    → (old new : ShelfState) (end : Result Request Shown) (shown : Shown) → Shows end shown
    → EndsIn reading old new end → IsPrintable shown
unfolding EndsIn IsFurther
of_further (ready request) further old new end shown shows ends =
    (is_result request shown (subst (λ e. Shows e shown) ends.0 shows)).printable
of_further (stop refusal) further old new end shown shows ends = absurd further
of_further (wanted P refusal next) further old new end shown shows (inl then) =
    of_further next further.2 old new end shown shows then.1
of_further (wanted P refusal next) further old new end shown shows (inr turned) =
    of_is shown refusal (subst (λ e. Shows e shown) turned.1 shows) further.1
of_further (file format name next) further old new end shown shows ends =
    of_text format further.0 name old new end shown _ shows (λ mid value then. of_further (next value) (further.1 value) mid new end shown shows then) ends

of_reading : (reading : Reading) → IsLawfulReading reading
    → (old new : ShelfState) (end : Result Request Shown) (shown : Shown) → Shows end shown
    → EndsIn reading old new end → IsPrintable shown
unfolding EndsIn IsLawfulReading
of_reading (stop refusal) is old new end shown shows ends =
    of_is shown refusal (subst (λ e. Shows e shown) ends.0 shows) is
of_reading (ready request) is old new end shown shows ends = of_further (ready request) is old new end shown shows ends
of_reading (wanted P refusal next) is old new end shown shows ends =
    of_further (wanted P refusal next) is old new end shown shows ends
of_reading (file format name next) is old new end shown shows ends =
    of_further (file format name next) is old new end shown shows ends

pub printable : (words : List (List ℕ)) (old new : ShelfState) (shown : Shown)
    → ShowsCommand words old new shown → IsPrintable shown
printable words old new shown is =
    of_reading (reading_of words) (lawful words) old new is.end shown is.shows is.reads
