-- The early ends of reading.
use Rattle.commands.proofs.Words.{BadWords, Case, EndsIn, Format, IfEarly, IsErrAnd, NoText, Reading, Reads, ReadsCompleted, ReadsText, Request, ShelfState, Shown, ShowsCommand}
use Rattle.commands.proofs.Words.{Stop, WantsFile, by_text, file, formed, no_text, of_completed, reading_of, ready}
use Rattle.commands.specs.declared.stop.Stop.TheVariants.{Early, OutOfMemory}
use Rattle.std.proofs.Common.{Err, IfOk, List, MatchResult, None, Ok, Option, Result, Some, refl, subst, sym, ℕ, ◌≡◌}

-- what a step stops with, reading ends with
stopped : (result : Result Request Stop) (stop : Stop) (P : Shown → Type 0) (reading : Reading) (old new : ShelfState)
    → IsErrAnd result (λ e. e ≡ stop) → ((shown : Shown) → P shown → EndsIn reading old new (Err shown))
    → WantsFile reading → IfEarly stop P → Reads reading old new result
stopped (Ok request) stop P reading old new same weaker wants early = absurd same
stopped (Err (Early shown)) stop P reading old new same weaker wants early =
    weaker shown (subst (λ s. IfEarly s P) (sym same) early)
stopped (Err OutOfMemory) stop P reading old new same weaker wants early = wants

-- words without the form are no command
pub without_form : {Words : Type 0} (words : Option Words) (next : Words → Reading) (state : ShelfState) (result : Result Request Stop)
    → words ≡ None → IsErrAnd result (λ e. e ≡ Early BadWords) → Reads (formed words next) state state result
unfolding EndsIn
without_form words next state (Ok request) none bad = absurd bad
without_form words next state (Err stop) none bad =
    let told : Reads (formed None next) state state (Err stop) =
    subst (λ s. Reads (formed None next) state state (Err s)) (sym bad) (refl, refl) in
    subst (λ w. Reads (formed w next) state state (Err stop)) (sym none) told

-- words that have it go on to what they ask
pub with_form : {Words : Type 0} (words : Option Words) (next : Words → Reading) (old new : ShelfState) (result : Result Request Stop)
    (found : Words) → words ≡ Some found → Reads (next found) old new result → Reads (formed words next) old new result
with_form words next old new result found some reads =
    subst (λ w. Reads (formed w next) old new result) (sym some) reads

-- and end as it does
pub form_ends : {Words : Type 0} (words : Option Words) (next : Words → Reading) (found : Words) (old new : ShelfState)
    (end : Result Request Shown) → words ≡ Some found → EndsIn (next found) old new end
    → EndsIn (formed words next) old new end
form_ends words next found old new end some ends = subst (λ w. EndsIn (formed w next) old new end) (sym some) ends

-- what they ask ends as they do
pub formed_ends : {Words : Type 0} (words : Option Words) (next : Words → Reading) (found : Words) (old new : ShelfState)
    (end : Result Request Shown) → words ≡ Some found → EndsIn (formed words next) old new end
    → EndsIn (next found) old new end
formed_ends words next found old new end some ends = subst (λ w. EndsIn (formed w next) old new end) some ends

-- the text of a first file was not had
pub without_text : {Value Cause : Type 0} (format : Format Value Cause) (result : Result Request Stop) (stop : Stop) (name : List ℕ) (old new : ShelfState)
    (next : Value → Reading)
    → IsErrAnd result (λ e. e ≡ stop) → IfEarly stop (NoText format name old new)
    → Reads (file format name next) old new result
unfolding EndsIn
without_text format result stop name old new next same early =
    stopped result stop _ (file format name next) old new same (λ shown none. no_text shown refl none) tt early

-- reading goes on with a completed case
pub by_completed : (name : List ℕ) (next : Case → Reading) (old mid new : ShelfState) (end : Result Request Shown) (case : Case)
    → ReadsCompleted name old mid case → EndsIn (next case) mid new end → EndsIn (of_completed name next) old new end
unfolding EndsIn
by_completed name next old mid new end case reads then =
    by_text mid reads.given reads.reads (subst (λ k. EndsIn (next k) mid new end) reads.is then)

-- all is read with the last file
pub by_last : {Value Cause : Type 0} (format : Format Value Cause) (name : List ℕ) (asks : Value → Request) (old new : ShelfState)
    (value : Value) → ReadsText format name old new value
    → EndsIn (file format name (λ v. ready (asks v))) old new (Ok (asks value))
unfolding EndsIn
by_last format name asks old new value reads = by_text new value reads (refl, refl)

-- nothing is left to be read
pub by_nothing : (asked : Request) (state : ShelfState) → EndsIn (ready asked) state state (Ok asked)
unfolding EndsIn
by_nothing asked state = (refl, refl)

-- the text of a second file was not had, behind a completed case
pub without_second : {Value Cause : Type 0} (second : Case → Format Value Cause) (next : Case → Value → Reading) (result : Result Request Stop) (stop : Stop)
    (case_name name : List ℕ) (old mid new : ShelfState) (case : Case)
    → IsErrAnd result (λ e. e ≡ stop) → ReadsCompleted case_name old mid case
    → IfEarly stop (NoText (second case) name mid new)
    → Reads (of_completed case_name (λ c. file (second c) name (next c))) old new result
unfolding EndsIn
without_second second next result stop case_name name old mid new case same reads early =
    let both : Case → Reading = λ c. file (second c) name (next c) in
    stopped result stop _ (of_completed case_name both) old new same
    (λ shown none. by_completed case_name both old mid new (Err shown) case reads (no_text shown refl none)) tt early

-- what is shown early is shown for the words
pub early_shown : {E : Type 0} (stop : Stop) (result : Result Shown E) (words : List (List ℕ)) (old new : ShelfState)
    → MatchResult result (λ shown. stop ≡ Early shown) (λ _. stop ≡ OutOfMemory)
    → Reads (reading_of words) old new (Err stop)
    → IfOk result (ShowsCommand words old new)
early_shown stop (Ok shown) words old new is early =
    record { end = Err shown; reads = subst (λ s. Reads (reading_of words) old new (Err s)) is early; shows = refl }
early_shown stop (Err e) words old new is early = tt
