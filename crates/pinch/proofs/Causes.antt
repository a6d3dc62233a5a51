-- Every command blames words, length and shelf only with cause.
use Rattle.commands.proofs.Formats.{IsLawful}
use Rattle.commands.proofs.Plain.{answered-plain, is_plain}
use Rattle.commands.proofs.Readings.{IsFurther, IsLawfulReading, lawful, whole}
use Rattle.commands.proofs.Results.{is_result}
use Rattle.pinch.proofs.Words.{EndsIn, FileRole, Format, FromText, IsWhole, KeepsFiles, MAX_FILE, NoFile, NoText, Reading, Request, ShelfState, Shown}
use Rattle.pinch.proofs.Words.{Shows, ShowsCommand, by_text, failed, file, no_file, no_text, reading_of, ready, refused, status_of, stop, too_long, wanted}
use Rattle.pinch.specs.Causes.{Causes, HasCause, ReadsFile}
use Rattle.std.proofs.Common.{List, Result, ap, arith, false, inl, inr, refl, subst, sym, true, ℕ, ◌∙◌, ◌≡◌, ◌≤◌}

-- the last file was read to its end
record Ended (new : ShelfState) : Type 0 where
  pub within : new.taken ≤ MAX_FILE
  pub end : new.ended ≡ true

of_whole : (name bytes : List ℕ) (old new : ShelfState) → IsWhole name old new bytes → Ended new
of_whole name bytes old new whole = record { within = omega (arith, whole.count, whole.within); end = whole.ended }

of_plain : (reading : Reading) (old new : ShelfState) (shown : Shown) → is_plain shown ≡ true → Ended new
    → Causes reading old new shown
of_plain reading old new shown plain ended = record {
  words_stand = λ is. let e : is_plain shown ≡ false = ap is_plain is in cc;
  too_long = λ role is. let e : is_plain shown ≡ false = ap is_plain is in cc;
  over_limit = λ over. absurd (omega (arith, ended.within));
  read_fault = λ role is. let e : is_plain shown ≡ false = ap is_plain is in cc;
  ended = λ answered. ended.end;
}

-- a weaker fact of the file of a role
weaker : (reading : Reading) (role : FileRole) (P Q : List ℕ → Type 0) → ((name : List ℕ) → P name → Q name)
    → ReadsFile reading role P
    → ReadsFile reading role Q
weaker (ready request) role P Q next here = absurd here
weaker (stop shown) role P Q next here = absurd here
weaker (wanted W refusal then) role P Q next here = weaker then role P Q next here
weaker (file format name then) role P Q next (inl here) = inl (here.0, next name here.1)
weaker (file format name then) role P Q next (inr later) = inr (later.0, weaker (then later.0) role P Q next later.1)

-- the causes from an earlier state of the shelf
of_later : (reading : Reading) (old mid new : ShelfState) (shown : Shown) → KeepsFiles old mid
    → Causes reading mid new shown → Causes reading old new shown
of_later reading old mid new shown keeps causes = record {
  words_stand = causes.words_stand;
  too_long =
      λ role is. weaker reading role _ _ (λ name long. record { taken = long.taken; file = rw (← keeps.files) long.file }) (causes.too_long role is);
  over_limit = causes.over_limit;
  read_fault = λ role is.
      weaker reading role _ _
      (λ name fault. record {
        rose = omega (arith, fault.rose, keeps.later);
        within = fault.within;
        failed = fault.failed;
        asked = rw (← keeps.files) fault.asked;
      })
      (causes.read_fault role is);
  ended = causes.ended;
}

-- the causes of a reading that reads these files too
of_part : (part reading : Reading) (old new : ShelfState) (shown : Shown)
    → ((role : FileRole) (P : List ℕ → Type 0) → ReadsFile part role P → ReadsFile reading role P)
    → Causes part old new shown → Causes reading old new shown
of_part part reading old new shown reads causes = record {
  words_stand = causes.words_stand;
  too_long = λ role is. reads role _ (causes.too_long role is);
  over_limit = causes.over_limit;
  read_fault = λ role is. reads role _ (causes.read_fault role is);
  ended = causes.ended;
}

module _ {Value Cause : Type 0} (format : Format Value Cause) (is_lawful : IsLawful format) (name : List ℕ) (next : Value → Reading) where
  of_no_file : (old new : ShelfState) (shown : Shown) → NoFile format.role name old new shown
      → Causes (file format name next) old new shown
  of_no_file old new shown (failed fault is) =
      rw is (record {
        words_stand = λ other. cc;
        too_long = λ r other. cc;
        over_limit = λ over. absurd (omega (arith, fault.within));
        read_fault = λ r same. let e : r ≡ format.role = cc in inl (e, fault);
        ended = λ answered. absurd answered;
      })
  of_no_file old new shown (too_long long is) =
      rw is (record {
        words_stand = λ other. cc;
        too_long = λ r same. let e : r ≡ format.role = cc in inl (e, long);
        over_limit = λ over. (format.role, refl);
        read_fault = λ r other. cc;
        ended = λ answered. absurd answered;
      })

  of_no_text : (old new : ShelfState) (shown : Shown) → NoText format name old new shown
      → Causes (file format name next) old new shown
  of_no_text old new shown (no_file none) = of_no_file old new shown none
  of_no_text old new shown (refused bytes whole refusal) =
      of_plain _ old new shown (ap is_plain refusal.is ∙ is_lawful.plain refusal.at refusal.why) (of_whole name bytes old new whole)

  of_file : (old new : ShelfState) (end : Result Request Shown) (shown : Shown) → Shows end shown
      → ((mid : ShelfState) (value : Value) → Ended mid → EndsIn (next value) mid new end → Causes (next value) mid new shown)
      → FromText format name old new end (λ mid value. EndsIn (next value) mid new end)
      → Causes (file format name next) old new shown
  of_file old new end shown shows causes (no_text early is none) =
      let same : shown ≡ early = subst (λ e. Shows e shown) is shows in
      subst (Causes (file format name next) old new) (sym same) (of_no_text old new early none)
  of_file old new end shown shows causes (by_text mid value reads then) =
      of_part (next value) (file format name next) old new shown (λ role P here. inr (value, here))
      (of_later (next value) old mid new shown reads.keeps (causes mid value (of_whole name reads.bytes old mid reads.whole) then))

of_further : (reading : Reading) → IsFurther reading
    → (old new : ShelfState) (end : Result Request Shown) (shown : Shown) → Shows end shown → Ended old
    → EndsIn reading old new end → Causes reading old new shown
unfolding EndsIn IsFurther
of_further (ready request) further old new end shown shows ended ends =
    let result = is_result request shown (subst (λ e. Shows e shown) ends.0 shows) in
    of_plain _ old new shown (answered-plain (status_of shown) result.answered) (subst Ended (sym ends.1) ended)
of_further (stop refusal) further old new end shown shows ended ends = absurd further
of_further (wanted P refusal next) further old new end shown shows ended (inl then) =
    of_part next (wanted P refusal next) old new shown (λ role Q here. here) (of_further next further.2 old new end shown shows ended then.1)
of_further (wanted P refusal next) further old new end shown shows ended (inr turned) =
    let same : shown ≡ refusal = subst (λ e. Shows e shown) turned.1 shows in
    of_plain _ old new shown (ap is_plain same ∙ further.0) (subst Ended (sym turned.2) ended)
of_further (file format name next) further old new end shown shows ended ends =
    of_file format further.0 name next old new end shown shows
    (λ mid value whole then. of_further (next value) (further.1 value) mid new end shown shows whole then) ends

of_reading : (reading : Reading) → IsLawfulReading reading
    → (old new : ShelfState) (end : Result Request Shown) (shown : Shown) → Shows end shown
    → EndsIn reading old new end → HasCause reading old new shown
unfolding EndsIn HasCause IsFurther IsLawfulReading
of_reading (ready request) is old new end shown shows ends =
    ((is_result request shown (subst (λ e. Shows e shown) ends.0 shows)).answered, ends.1)
of_reading (stop refusal) is old new end shown shows ends = (subst (λ e. Shows e shown) ends.0 shows, ends.1)
of_reading (wanted P refusal next) is old new end shown shows (inl then) =
    inl (of_reading next (whole next is.2) old new end shown shows then.1)
of_reading (wanted P refusal next) is old new end shown shows (inr turned) =
    inr (subst (λ e. Shows e shown) turned.1 shows, turned.2)
of_reading (file format name next) is old new end shown shows ends =
    of_file format is.0 name next old new end shown shows (λ mid value whole then. of_further (next value) (is.1 value) mid new end shown shows whole then) ends

pub causes : (words : List (List ℕ)) (old new : ShelfState) (shown : Shown) → ShowsCommand words old new shown
    → HasCause (reading_of words) old new shown
causes words old new shown is =
    of_reading (reading_of words) (lawful words) old new is.end shown is.shows is.reads
