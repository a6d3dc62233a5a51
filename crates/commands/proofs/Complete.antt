-- Files that answer a command are answered, and a file that is refused is told so, unless a call of the shelf is refused.
use Rattle.commands.proofs.Formats.{IsLawful, not_both, one_refusal, one_value}
use Rattle.commands.proofs.Readings.{IsFurther, lawful, of_answerable, of_refusable}
use Rattle.commands.proofs.Results.{is_result}
use Rattle.commands.proofs.Words.{CanAnswer, EndsIn, FileRole, Format, FromText, HasBadFile, Holds, HoldsFault, HoldsText, IsAnswered, IsFile}
use Rattle.commands.proofs.Words.{IsFileAbove, IsRefused, KeepsFiles, MAX_FILE, NamedFile, NoFile, NoText, Reading, Request, Rose, ShelfState, Shown, Shows}
use Rattle.commands.proofs.Words.{ShowsCommand, by_text, failed, file, no_file, no_text, reading_of, ready, refused, status_of, stop, too_long, wanted}
use Rattle.std.proofs.Common.{Err, List, Ok, Option, Result, Some, ap, arith, inl, inr, length, subst, sym, ℕ, ◌∙◌, ◌≡◌}

-- a file within the limit is not above it
not_above : (files : Option (List NamedFile)) (name bytes : List ℕ) → Holds files name bytes
    → IsFileAbove files name MAX_FILE → ⊥
not_above files name bytes holds above =
    let told : IsFileAbove (Some holds.told) name MAX_FILE = subst (λ f. IsFileAbove f name MAX_FILE) holds.are above in
    let same : told.0 ≡ bytes = cc (told.1, holds.found) in
    omega (arith, told.2, ap length same, holds.within)

-- the bytes that were taken are those of the file
same_bytes : (files : Option (List NamedFile)) (name bytes taken : List ℕ) → Holds files name bytes
    → IsFile files name (Some taken) → taken ≡ bytes
same_bytes files name bytes taken holds is =
    let told : IsFile (Some holds.told) name (Some taken) = subst (λ f. IsFile f name (Some taken)) holds.are is in
    cc (told, holds.found)

taken : (role : FileRole) (name bytes : List ℕ) (old new : ShelfState) (shown : Shown)
    → Holds old.files name bytes → (Rose old.faults new.faults → ⊥)
    → NoFile role name old new shown → ⊥
taken role name bytes old new shown holds no_fault (failed fault is) = no_fault fault.rose
taken role name bytes old new shown holds no_fault (too_long long is) = not_above old.files name bytes holds long.file

module _ {Value Cause : Type 0} (format : Format Value Cause) (lawful : IsLawful format) (name : List ℕ) (old new : ShelfState) (end : Result Request Shown)
    (no_fault : Rose old.faults new.faults → ⊥) where
  not_refused : (shown : Shown) (P : Value → Type 0) → HoldsText format old.files name P
      → NoText format name old new shown → ⊥
  not_refused shown P held (no_file none) = taken format.role name held.bytes old new shown held.file no_fault none
  not_refused shown P held (refused bytes whole refusal) =
      let same = same_bytes old.files name held.bytes bytes held.file whole.file in
      not_both format lawful held.bytes held.value shown held.says (subst (λ b. IsRefused format b shown) same refusal)

  -- reading goes on with what the file says
  pub of_held : (P : Value → Type 0) (work : ShelfState → Value → Type 0) (Q : Type 0)
      → HoldsText format old.files name P
      → ((mid : ShelfState) (value : Value) → KeepsFiles old mid → P value → work mid value → Q)
      → FromText format name old new end work → Q
  of_held P work Q held next (no_text shown is none) = absurd (not_refused shown P held none)
  of_held P work Q held next (by_text mid value reads then) =
      let bytes = same_bytes old.files name held.bytes reads.bytes held.file reads.whole.file in
      let same = one_value format lawful held.bytes value held.value (subst (λ b. format.Gives b (Ok value)) bytes reads.says) held.says in
      next mid held.value reads.keeps held.then (subst (work mid) same then)

  -- a file that its grammar refuses is told to be so
  pub of_refused : (refusal : Shown) (work : ShelfState → Value → Type 0)
      → HoldsFault format old.files name refusal → FromText format name old new end work
      → end ≡ Err refusal
  of_refused refusal work held (no_text shown is (no_file none)) =
      absurd (taken format.role name held.bytes old new shown held.file no_fault none)
  of_refused refusal work held (no_text shown is (refused bytes whole other)) =
      let same = same_bytes old.files name held.bytes bytes held.file whole.file in
      is ∙ ap Err (one_refusal format lawful held.bytes shown refusal (subst (λ b. IsRefused format b shown) same other) held.refused)
  of_refused refusal work held (by_text mid value reads then) =
      let same = same_bytes old.files name held.bytes reads.bytes held.file reads.whole.file in
      absurd (not_both format lawful held.bytes value refusal (subst (λ b. format.Gives b (Ok value)) same reads.says) held.refused)

-- no fault comes after a file was read, where none comes at all
pub no_later_fault : (old mid new : ShelfState) → KeepsFiles old mid → (Rose old.faults new.faults → ⊥)
    → Rose mid.faults new.faults → ⊥
no_later_fault old mid new keeps no_fault rose = no_fault (omega (arith, rose, keeps.later))

-- files that are what is wanted end in a request
answerable : (reading : Reading) → IsFurther reading → (old new : ShelfState) (end : Result Request Shown)
    → (Rose old.faults new.faults → ⊥)
    → CanAnswer reading old.files
    → EndsIn reading old new end → (request : Request) × (end ≡ Ok request)
unfolding EndsIn CanAnswer IsFurther
answerable (ready request) further old new end no_fault can ends = (request, ends.0)
answerable (stop refusal) further old new end no_fault can ends = absurd can
answerable (wanted P refusal next) further old new end no_fault can (inl then) =
    answerable next further.2 old new end no_fault can.1 then.1
answerable (wanted P refusal next) further old new end no_fault can (inr turned) = absurd (turned.0 can.0)
answerable (file format name next) further old new end no_fault can ends =
    of_held format further.0 name old new end no_fault _ _ _ can
    (λ mid value keeps rest then. answerable (next value) (further.1 value) mid new end (no_later_fault old mid new keeps no_fault)
    (subst (CanAnswer (next value)) (sym keeps.files) rest) then) ends

-- a file that is refused ends in its refusal
refusable : (reading : Reading) → IsFurther reading → (old new : ShelfState) (end : Result Request Shown)
    → (Rose old.faults new.faults → ⊥) → (refusal : Shown)
    → HasBadFile reading old.files refusal → EndsIn reading old new end → end ≡ Err refusal
unfolding EndsIn HasBadFile IsFurther
refusable (ready request) further old new end no_fault refusal bad ends = absurd bad
refusable (stop other) further old new end no_fault refusal bad ends = absurd bad
refusable (wanted P other next) further old new end no_fault refusal (inl bad) (inl then) = absurd (bad.0 then.0)
refusable (wanted P other next) further old new end no_fault refusal (inl bad) (inr turned) =
    turned.1 ∙ ap Err (sym bad.1)
refusable (wanted P other next) further old new end no_fault refusal (inr bad) (inl then) =
    refusable next further.2 old new end no_fault refusal bad.1 then.1
refusable (wanted P other next) further old new end no_fault refusal (inr bad) (inr turned) = absurd (turned.0 bad.0)
refusable (file format name next) further old new end no_fault refusal (inl bad) ends =
    of_refused format further.0 name old new end no_fault refusal _ bad ends
refusable (file format name next) further old new end no_fault refusal (inr bad) ends =
    of_held format further.0 name old new end no_fault _ _ _ bad
    (λ mid value keeps rest then. refusable (next value) (further.1 value) mid new end (no_later_fault old mid new keeps no_fault) refusal
    (subst (λ files. HasBadFile (next value) files refusal) (sym keeps.files) rest) then) ends

pub complete : (words : List (List ℕ)) (old new : ShelfState) (shown : Shown) → ShowsCommand words old new shown
    → CanAnswer (reading_of words) old.files → (Rose old.faults new.faults → ⊥) → IsAnswered (status_of shown)
complete words old new shown is can no_fault =
    let further = of_answerable (reading_of words) old.files (lawful words) can in
    let found = answerable (reading_of words) further old new is.end no_fault can is.reads in
    (is_result found.0 shown (subst (λ e. Shows e shown) found.1 is.shows)).answered

pub bad_file : (words : List (List ℕ)) (old new : ShelfState) (shown : Shown) → ShowsCommand words old new shown
    → (refusal : Shown) → HasBadFile (reading_of words) old.files refusal
    → (Rose old.faults new.faults → ⊥) → shown ≡ refusal
bad_file words old new shown is refusal bad no_fault =
    let further = of_refusable (reading_of words) old.files refusal (lawful words) bad in
    subst (λ e. Shows e shown) (refusable (reading_of words) further old new is.end no_fault refusal bad is.reads) is.shows
